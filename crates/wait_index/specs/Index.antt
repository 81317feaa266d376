-- What a caller sees of an index
use Rattle.std.specs.Prelude.{ℕ, List}
use Rattle.wait_index.specs.declared.room.Room.{Room}
use Rattle.wait_index.specs.Net.{Net}

-- the nodes that the last close unmarked, and how many marked nodes it left marked
pub record Last : Type 0 where
  pub fallen : List ℕ
  pub kept : ℕ

-- the net, the marked nodes, how many nodes, labels and edges more there is room for, and what the
-- last close did
pub record Index : Type 0 where
  pub net : Net
  pub marked : List ℕ
  pub room : Room
  pub last : Last
