use Rattle.std.proofs.Common.{◌↔◌}
use Rattle.reseeding.proofs.DoubtFacts.{HasSome, IsListedRecord}
use Rattle.reseeding.proofs.doubt.lists_distrusted.Given as goal

abbrev pub invariant-loop-of : goal.invariant-loop-of
invariant-loop-of g l = HasSome (IsListedRecord l.domain l.document) l.of-iterator ↔ HasSome (IsListedRecord l.domain l.document) l.initial.of-iterator
