use Rattle.std.proofs.Common.{◌≡◌, take}
use Rattle.bundle_view.proofs.conflict.are_same.Given as goal

abbrev pub invariant-loop-place : goal.invariant-loop-place
invariant-loop-place l = take l.place l.ones ≡ take l.place l.others
