use Rattle.std.proofs.Common.{◌≡◌}
use Rattle.key_view.specs.SameKeys.{has_record}
use Rattle.key_view.proofs.matching_keys.has_record.Given as goal

abbrev pub invariant-loop-of : goal.invariant-loop-of
invariant-loop-of g l = has_record l.domain l.of-iterator ≡ has_record l.domain l.initial.of-iterator
