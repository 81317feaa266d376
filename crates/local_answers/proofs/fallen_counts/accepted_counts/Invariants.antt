use Rattle.std.proofs.Common.{take}
use Rattle.local_answers.proofs.FallenFacts.{CountsSoFar}
use Rattle.local_answers.proofs.fallen_counts.accepted_counts.Given as goal

abbrev pub invariant-loop-domain : goal.invariant-loop-domain
invariant-loop-domain g l = CountsSoFar (g.C.Closure.state l.closure).meaning (take l.domain-index l.domain-items) l.counts.items
