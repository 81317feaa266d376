use Rattle.std.proofs.Common.{◌↔◌}
use Rattle.reseeding.proofs.DoubtFacts.{HasSome, IsOther}
use Rattle.reseeding.proofs.doubt.has_rival.Given as goal

abbrev pub invariant-loop-other : goal.invariant-loop-other
invariant-loop-other g l = HasSome (IsOther l.document) l.other-iterator ↔ HasSome (IsOther l.document) l.initial.other-iterator
