-- A sequence in blocks: their numbers one after another are the sequence
use Rattle.std.specs.Prelude.{◌≡◌, ◌≢◌, ℕ, ◌+◌, ◌-◌, ◌*◌, ◌^◌, ◌<◌, ◌≤◌, zero, suc, List, [], ◌∷◌}
use Rattle.std.specs.Prelude.{◌++◌, length, take, drop, slice_index, slice_index_or}
use Rattle.std.specs.declared.cmp.Ordering.{Ordering}
use Rattle.std.specs.declared.cmp.Ordering.TheVariants.{Less}
use Rattle.std.specs.List.{concat, insert, sum}

-- Each block holds at least half of what it can hold.
abbrev pub AreHalfFull : List (List ℕ) → Type 0
AreHalfFull [] = Unit {0}
AreHalfFull (block ∷ blocks) = (256 ≤ length block) × AreHalfFull blocks

-- Each block but the first does.
abbrev pub AreFilled : List (List ℕ) → Type 0
AreFilled [] = Unit {0}
AreFilled (block ∷ blocks) = AreHalfFull blocks

-- the block at a place of the directory
abbrev pub block_at : List (List ℕ) → ℕ → List ℕ
block_at blocks i = slice_index_or blocks i []

-- how many numbers come before the block at a place
abbrev pub length_before : List (List ℕ) → ℕ → ℕ
length_before blocks i = length (concat (take i blocks))

-- the blocks after the number is put into the one at a place
abbrev pub put : List (List ℕ) → ℕ → ℕ → ℕ → List (List ℕ)
put [] i within number = []
put (block ∷ blocks) zero within number = insert block within number ∷ blocks
put (block ∷ blocks) (suc i) within number = block ∷ put blocks i within number

-- the blocks after the one at a place is cut into halves
abbrev pub halved : List (List ℕ) → ℕ → List (List ℕ)
halved [] i = []
halved (block ∷ blocks) zero = take 256 block ∷ drop 256 block ∷ blocks
halved (block ∷ blocks) (suc i) = block ∷ halved blocks i

-- The place of the sequence lies in, or at the end of, the block at a place of the directory.
pub record IsSpot (blocks : List (List ℕ)) (at block place : ℕ) : Type 0 where
  pub listed : block < length blocks
  pub within : place ≤ length (block_at blocks block)
  pub whole : length_before blocks block + place ≡ at

-- The number just before the place comes before what is sought, and the number there doesn't.
pub record IsBoundary (compared : ℕ → Ordering) (numbers : List ℕ) (place : ℕ) : Type 0 where
  pub within : place ≤ length numbers
  pub before : 0 < place → compared (slice_index numbers (place - 1)) ≡ Less
  pub after : place < length numbers → compared (slice_index numbers place) ≢ Less

-- What is sought is not before the block, unless it is the first, nor in a later one but at its
-- start.
pub record IsEdgeBlock (compared : ℕ → Ordering) (blocks : List (List ℕ)) (block : ℕ) : Type 0 where
  pub within : block < length blocks
  pub before : 0 < block → compared (slice_index (block_at blocks block) 0) ≡ Less
  pub after : block + 1 < length blocks
      → compared (slice_index (block_at blocks (block + 1)) 0) ≢ Less

-- how many numbers there is room for, given that each block but the first is at least half full
abbrev pub capacity_of : ℕ → ℕ → ℕ
capacity_of blocks spare = 256 * (blocks + spare - 1)

-- There is a sum for each group of 64 blocks, and those of the first groups add up to how many
-- numbers come before the next group.
pub record AreSums (sums : List ℕ) (blocks : List (List ℕ)) : Type 0 where
  pub all : length blocks ≤ 64 * length sums
  pub each : (group : ℕ) → group ≤ length sums
      → sum (take group sums) ≡ length_before blocks (64 * group)

-- What an order keeps.
pub record AreKept (blocks : List (List ℕ)) (sums : List ℕ)
    (spare count directory : ℕ) : Type 0 where
  pub counted : count ≡ length (concat blocks)
  pub roomy : count ≤ capacity_of (length blocks) spare
  pub filled : AreFilled blocks
  pub first : 0 < spare → 0 < length blocks
  pub listed : length blocks + spare ≤ directory
  pub few : length blocks + spare ≤ 2 ^ 24
  pub summed : AreSums sums blocks
  pub grouped : length blocks + spare ≤ 64 * length sums

-- What is left to lend: this many of the numbers here and in the blocks, none of which is empty.
pub record IsLeft (numbers : List ℕ) (blocks : List (List ℕ)) (left : ℕ) : Type 0 where
  pub filled : AreHalfFull blocks
  pub within : left ≤ length (numbers ++ concat blocks)
