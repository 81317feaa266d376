use Rattle.std.proofs.Common.{◌≡◌, ◌++◌, drop}
use Rattle.fedbundle.specs.Distrust.{records_for}
use Rattle.fedbundle.proofs.distrust.records_of.Given as goal

abbrev pub invariant-loop-key : goal.invariant-loop-key
invariant-loop-key l = l.records.items ++ records_for l.domain (drop l.key-index l.keys) ≡ records_for l.domain l.keys
