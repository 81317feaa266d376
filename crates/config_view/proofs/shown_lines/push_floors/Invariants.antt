use Rattle.std.proofs.Common.{◌≡◌, ◌++◌, drop, map}
use Rattle.config_view.specs.ConfigText.{floor_line}
use Rattle.config_view.proofs.shown_lines.push_floors.Given as goal

abbrev pub invariant-loop-floor : goal.invariant-loop-floor
invariant-loop-floor l = l.lines.items ++ map floor_line (drop l.floor-index l.floors) ≡ l.initial.lines.items ++ map floor_line l.floors
