use Rattle.std.proofs.Common.{take}
use Rattle.reseeding.specs.Inside.Domains.{HasSeeds}
use Rattle.reseeding.proofs.seed_choice.current_seeds.Given as goal

abbrev pub invariant-loop-domain : goal.invariant-loop-domain
invariant-loop-domain g l = HasSeeds (g.C.Closure.state l.closure).meaning (take l.domain-index l.domain-items) l.seeds.items
