-- What the code writes of the floors, before the member of the relationships.
use Rattle.std.specs.Prelude.{ℕ, List, [], ◌∷◌, ◌++◌, codes, false}
use Rattle.serde_json.specs.Written.{members_text}
use Rattle.fed_config.specs.Configuration.{floor_members}
use Rattle.fed_config.specs.declared.floor.Floor.{Floor}

-- the member and the comma after it, if there are floors
abbrev pub floors_text : List Floor → List ℕ
floors_text [] = []
floors_text (f ∷ floors) = codes "\"floors\":{"
    ++ (members_text false (floor_members (f ∷ floors)) ++ codes ",")
