use Rattle.bundle_doc.proofs.CanonicalAuthorityFacts.{ReadsAuthority-jwt_rsa}
use Rattle.bundle_doc.proofs.canonical_authority.read_jwt_rsa.Goals as goal

pub returns : goal.returns
returns c =
    ReadsAuthority-jwt_rsa _ _ _ _ _ _ _ _ _ _ _ c.in_ok-rest.ensures c.in_ok-e.ensures c.in_ok-kid.ensures c.in_ok-n.ensures
    c.in_ok-url_text-2.ensures c.in_ok-kid-2.ensures c.in_ok-url_text.ensures
