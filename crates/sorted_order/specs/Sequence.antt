-- What a caller sees of an order of numbers
use Rattle.std.specs.Prelude.{ℕ, List}

-- the numbers, and how many there is room for in all
pub record Sequence : Type 0 where
  pub items : List ℕ
  pub capacity : ℕ
