use Rattle.std.proofs.Common.{◌≡◌, ◌++◌}
use Rattle.replica_core.proofs.message.copied_records.Given as goal

abbrev pub invariant-loop-domain : goal.invariant-loop-domain
invariant-loop-domain l = l.records.items ++ l.domain-iterator ≡ l.initial.domain-iterator
