use Rattle.std.proofs.Common.{take, option_copied}
use Rattle.reseeding.specs.Inside.Domains.{HasRefusals}
use Rattle.reseeding.proofs.refusals.refusal_text.Given as goal

abbrev pub invariant-loop-domain : goal.invariant-loop-domain
invariant-loop-domain g l = HasRefusals (g.C.Closure.state l.closure).meaning (option_copied l.allowed) (take l.domain-index l.domain-items) l.out.items
