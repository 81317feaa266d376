-- The documents so far have their nodes.
use Rattle.std.proofs.Common.{take}
use Rattle.trust_closure.specs.Inside.Indexed.{IsSeeded}
use Rattle.trust_closure.proofs.seeds.add_seeds.Given as goal

abbrev pub invariant-loop-place : goal.invariant-loop-place
invariant-loop-place l = IsSeeded l.held (take l.place l.seeds) l.pairs l.label_index
