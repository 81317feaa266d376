-- With the receipts from here back, those so far are all.
use Rattle.std.proofs.Common.{◌++◌, List, Some}
use Rattle.receipt_core.specs.Receipt.{Receipt}
use Rattle.bundle_view.specs.Inside.Search.{IsBackFrom}
use Rattle.bundle_view.proofs.TrailFacts.{IsWithin, left_from}
use Rattle.bundle_view.proofs.steps.chain_to.Given as goal

abbrev pub invariant-steps : goal.invariant-steps
invariant-steps l = record {
  within : IsWithin l.steps l.at;
  so_far : (rest : List Receipt) → IsBackFrom l.steps l.at rest → IsBackFrom l.steps (Some l.last) (l.chain.items ++ rest);
}

abbrev pub decreases-steps : goal.decreases-steps
decreases-steps l = left_from l.steps l.at
