use Rattle.std.proofs.Common.{rules}
use Rattle.reseeding.proofs.FloorFacts.{adds_no_floor, adds_floor}
use Rattle.reseeding.proofs.new_floors.add_floor.Goals as goal

pub returns-in_default : goal.returns-in_default
returns-in_default g c = adds_no_floor _ _ _ c.raised_floor.result (search rules) c.raised_floor.ensures

pub returns : goal.returns
returns g c = adds_floor _ _ _ _ c.raised_floor.result c.in-Some.sequence (search rules) c.raised_floor.ensures (search rules)
