use Rattle.bundle_doc.proofs.CanonicalAuthorityFacts.{ReadsAuthority-x509_rsa}
use Rattle.bundle_doc.proofs.canonical_authority.read_x509_rsa.Goals as goal

pub returns : goal.returns
returns c =
    ReadsAuthority-x509_rsa _ _ _ _ _ _ _ _ _ _ _ c.in_ok-rest.ensures c.in_ok-e.ensures c.in_ok-n.ensures c.in_ok-der.ensures
    c.in_ok-url_text-2.ensures c.in_ok-url_text.ensures c.in_ok-der-2.ensures
