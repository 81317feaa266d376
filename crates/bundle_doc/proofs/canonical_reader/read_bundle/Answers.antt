use Rattle.bundle_doc.proofs.CanonicalReaderFacts.{ReadsBundle-parts}
use Rattle.bundle_doc.proofs.canonical_reader.read_bundle.Goals as goal

pub returns : goal.returns
returns c = ReadsBundle-parts _ _ _ _ _ _ c.in_ok-keys.ensures c.in_ok-authorities.ensures c.in_ok-hint.ensures
