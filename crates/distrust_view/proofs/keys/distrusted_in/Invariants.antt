use Rattle.std.proofs.Common.{◌≡◌, ◌++◌}
use Rattle.distrust_view.specs.DistrustEffect.{distrusted_keys}
use Rattle.distrust_view.proofs.keys.distrusted_in.Given as goal

abbrev pub invariant-loop-of : goal.invariant-loop-of
invariant-loop-of g l = l.keys.items ++ distrusted_keys l.domain l.of-iterator ≡ distrusted_keys l.domain l.initial.of-iterator
