use Rattle.jwk_set.proofs.text.push_jwt.Goals as goal

pub returns-in-Rsa : goal.returns-in-Rsa
returns-in-Rsa c = rw c.in-Rsa.is c.push_jwt_rsa.ensures

pub returns-in-Ec : goal.returns-in-Ec
returns-in-Ec c = rw c.in-Ec.is c.push_jwt_ec.ensures
