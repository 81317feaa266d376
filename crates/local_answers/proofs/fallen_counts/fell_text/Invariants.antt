use Rattle.std.proofs.Common.{take}
use Rattle.local_answers.specs.Fallen.{SaysFell}
use Rattle.local_answers.proofs.fallen_counts.fell_text.Given as goal

abbrev pub invariant-loop-one : goal.invariant-loop-one
invariant-loop-one g l = SaysFell (g.C.Closure.state l.closure).meaning (take l.one-index l.before) l.text.items
