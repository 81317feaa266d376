use Rattle.bundle_doc.proofs.HashedFacts.{AreHashed-last}
use Rattle.bundle_doc.proofs.known_beginnings.hasher_behind.Goals as goal

pub returns-in_ok-clone-in-Some : goal.returns-in_ok-clone-in-Some
returns-in_ok-clone-in-Some c = AreHashed-last _ _ _ _ _ c.in-Some.ensures.cases.0 c.in_ok-clone-in-Some.ensures.cases c.requires
