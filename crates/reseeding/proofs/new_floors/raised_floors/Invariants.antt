use Rattle.std.proofs.Common.{take}
use Rattle.reseeding.specs.Inside.Domains.{GathersFloors}
use Rattle.reseeding.proofs.new_floors.raised_floors.Given as goal

abbrev pub invariant-loop-domain : goal.invariant-loop-domain
invariant-loop-domain g l = GathersFloors (g.C.Closure.state l.closure).meaning (take l.domain-index l.domain-items) l.floors.items
