-- How many bytes may be held together.
use Rattle.std.specs.Prelude.{ℕ, ◌-◌, ◌/◌}
use Rattle.fair_turns.specs.declared.byte_room.RoomUser.{RoomUser}
use Rattle.fair_turns.specs.declared.byte_room.RoomUser.TheVariants.{Reader, Writer}

-- up to how many bytes somebody may fill a room of this size: readers leave a quarter to writers
abbrev pub most_for : ℕ → RoomUser → ℕ
most_for most Writer = most
most_for most Reader = most - most / 4
