use Rattle.bundle_doc.proofs.CanonicalAuthorityFacts.{ReadsAuthority-jwt_ec}
use Rattle.bundle_doc.proofs.canonical_authority.read_jwt_ec.Goals as goal

pub returns : goal.returns
returns c =
    ReadsAuthority-jwt_ec _ _ _ _ _ _ _ _ _ _ _ _ _ _ c.in_ok-rest.ensures c.in_ok-crv.ensures c.in_ok-kid.ensures c.in_ok-x.ensures c.in_ok-y.ensures
    c.in_ok-non_empty_text.ensures c.in_ok-kid-2.ensures c.in_ok-url_text.ensures c.in_ok-url_text-2.ensures
