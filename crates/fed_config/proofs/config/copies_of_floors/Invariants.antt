use Rattle.std.proofs.Common.{◌≡◌, take}
use Rattle.fed_config.proofs.config.copies_of_floors.Given as goal

abbrev pub invariant-loop-floor : goal.invariant-loop-floor
invariant-loop-floor l = l.copies.items ≡ take l.floor-index l.floors
