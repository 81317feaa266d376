-- Good and bad examples of the definitions, by computation
use Rattle.std.proofs.Common.{◌≡◌, ℕ, zero, suc, ◌<◌, ◌≤◌, ◌*◌, [], ◌∷◌, take, slice_index_or, refl, arith}
use Rattle.std.specs.declared.cmp.Ordering.TheVariants.{Less, Equal}
use Rattle.std.specs.List.{filter, sum}
use Rattle.std.specs.Ordering.{nat_cmp}
use Rattle.sorted_order.specs.Inside.Blocks.{AreFilled, AreSums, capacity_of, length_before, put}
use Rattle.sorted_order.specs.Sought.{IsRising, IsFound, is_equal}
use Rattle.sorted_order.specs.Inside.Seeking.{past}
use Rattle.sorted_order.specs.ArenaView.{in_order, Arranges}

-- Without blocks there is no room.
capacity_of_none : capacity_of 0 0 ≡ 0
capacity_of_none = refl

-- The first block makes no room.
capacity_of_first : capacity_of 1 0 ≡ 0
capacity_of_first = refl

-- Each further block, used or spare, makes room for half of what it can hold.
capacity_of_three : capacity_of 2 1 ≡ 512
capacity_of_three = refl

-- A number goes into the block that is named, and at the place within it.
put_in_second : put ((1 ∷ 2 ∷ []) ∷ (5 ∷ 7 ∷ []) ∷ []) 1 1 6 ≡ (1 ∷ 2 ∷ []) ∷ (5 ∷ 6 ∷ 7 ∷ []) ∷ []
put_in_second = refl

-- a second block of two numbers is too empty
not_filled : AreFilled ((1 ∷ []) ∷ (2 ∷ 3 ∷ []) ∷ []) → ⊥
not_filled h = let half : 256 ≤ 2 = h.0 in omega arith

-- The sum of the one group is right before it and after it.
first_sums : (group : ℕ) → group ≤ 1
    → sum (take group (3 ∷ [])) ≡ length_before ((1 ∷ 2 ∷ []) ∷ (5 ∷ []) ∷ []) (64 * group)
first_sums zero h = refl
first_sums (suc zero) h = refl
first_sums (suc (suc group)) h = absurd (omega arith)

-- One sum over both blocks is right.
one_group : AreSums (3 ∷ []) ((1 ∷ 2 ∷ []) ∷ (5 ∷ []) ∷ [])
one_group = record { all = omega arith; each = first_sums }

-- A sum that leaves a number out is refused.
not_summed : AreSums (2 ∷ []) ((1 ∷ 2 ∷ []) ∷ (5 ∷ []) ∷ []) → ⊥
not_summed h = let low : ◌≡◌ {A = ℕ} 2 3 = h.each 1 (omega arith) in omega (arith, low)

-- Items that arrived in any order come out in that of their numbers.
ten_to_thirty : in_order {T = ℕ} (record { items = 30 ∷ 10 ∷ 20 ∷ []; order = 1 ∷ 2 ∷ 0 ∷ []; capacity = 4 }) ≡ 10 ∷ 20 ∷ 30 ∷ []
ten_to_thirty = refl

-- In a list that has number 0 twice, number 1 is missing.
missing : (k one : ℕ) → one ≡ 1 → k < 2 → slice_index_or (0 ∷ 0 ∷ []) k one ≡ one → ⊥
missing zero one e l h = absurd (omega arith)
missing (suc zero) one e l h = absurd (omega arith)
missing (suc (suc k)) one e l h = absurd (omega arith)

-- An order that has a number twice is refused.
not_arranged : Arranges (0 ∷ 0 ∷ []) 2 → ⊥
not_arranged h = let has = h.each 1 (omega arith) in missing has.0 1 refl has.1 has.2

-- Just the equal items of a list are kept.
the_twenties : filter (λ n. is_equal (nat_cmp n 20)) (10 ∷ 20 ∷ 20 ∷ 30 ∷ []) ≡ 20 ∷ 20 ∷ []
the_twenties = refl

-- A list that falls is refused.
not_rising : IsRising (λ n. nat_cmp n 20) (30 ∷ 10 ∷ []) → ⊥
not_rising h = let low : 2 ≤ 0 = h.rising 0 1 0 (omega arith) (omega arith) in omega arith

-- The second of two equal items is not the one to be found.
not_the_first : IsFound (λ n. nat_cmp n 20) (20 ∷ 20 ∷ []) 1 → ⊥
not_the_first h = let less : Equal ≡ Less = h.before 0 0 (omega arith) (omega arith) in cc

-- What is equal comes before the place just past it.
just_past : past Equal ≡ Less
just_past = refl
