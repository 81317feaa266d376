use Rattle.std.proofs.Common.{◌≡◌, ◌++◌, drop, false}
use Rattle.serde_json.specs.Written.{members_text}
use Rattle.fed_config.specs.Configuration.{floor_members}
use Rattle.fed_config.proofs.canonical.write_each_floor.Given as goal

abbrev pub invariant-loop-floor : goal.invariant-loop-floor
invariant-loop-floor l = l.out.items ++ members_text l.later (floor_members (drop l.floor-index l.floors))
    ≡ l.fn.out.items ++ members_text false (floor_members l.floors)
