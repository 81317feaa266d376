-- The search has passed the steps before the place.
use Rattle.std.proofs.Common.{◌-◌, length}
use Rattle.closure_core.specs.AcceptedList.{document_of}
use Rattle.bundle_view.proofs.TrailFacts.{IsAt}
use Rattle.bundle_view.proofs.steps.follow_all.Given as goal

abbrev pub invariant-steps : goal.invariant-steps
invariant-steps l = IsAt l.seeds l.waiting (document_of l.domain l.document) l.visited l.steps.items l.place

abbrev pub decreases-steps : goal.decreases-steps
decreases-steps l = length l.waiting - l.place
