use Rattle.jwk_set.proofs.text.push_authority.Goals as goal

pub returns-in-X509 : goal.returns-in-X509
returns-in-X509 c = rw c.in-X509.is c.push_x509.ensures

pub returns-in-Jwt : goal.returns-in-Jwt
returns-in-Jwt c = rw c.in-Jwt.is c.push_jwt.ensures
