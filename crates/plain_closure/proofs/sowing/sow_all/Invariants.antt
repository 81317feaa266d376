-- The documents so far have their numbers.
use Rattle.std.proofs.Common.{take}
use Rattle.plain_closure.specs.Plain.{IsSown}
use Rattle.plain_closure.proofs.sowing.sow_all.Given as goal

abbrev pub invariant-loop-place : goal.invariant-loop-place
invariant-loop-place l = IsSown l.held (take l.place l.seeds) l.pairs l.seed_offers.items
