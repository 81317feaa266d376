-- Sums that are kept, part by part.
use Rattle.std.specs.Prelude.{◌≡◌, ℕ, ◌+◌, List, [], ◌∷◌, length, map}
use Rattle.std.specs.List.Sorted.{IsStrictlySortedBy}
use Rattle.receipt_core.specs.Receipt.{distrust_cmp, receipt_cmp}
use Rattle.replica_core.specs.Convergence.{IsPartOf}
use Rattle.replica_core.specs.State.{State}
use Rattle.bucket_sums.specs.Lines.{part_count}
use Rattle.bucket_sums.specs.Parts.{count_in, part_sum}
use Rattle.bucket_sums.specs.declared.kept_sums.CountedSum.{CountedSum}
use Rattle.bucket_sums.specs.declared.kept_sums.KeptSums.{KeptSums}

-- receipts and records rise, so each comes once
pub record IsRisingBoth (state : State) : Type 0 where
  pub held : IsStrictlySortedBy receipt_cmp state.held
  pub records : IsStrictlySortedBy distrust_cmp state.records

-- It is the sum of the part, with the number of its receipts or records.
pub record IsSumOf (state : State) (part : ℕ) (k : CountedSum) : Type 0 where
  pub count : k.count ≡ count_in state part
  pub sum : k.sum.0 ≡ part_sum state part

-- the sums of this part and of those after it
abbrev pub ArePartSums : State → ℕ → List CountedSum → Type 0
ArePartSums state part [] = Unit {0}
ArePartSums state part (k ∷ parts) = IsSumOf state part k × ArePartSums state (part + 1) parts

-- the sums without the numbers
abbrev pub sums_in : List CountedSum → List (List ℕ)
sums_in parts = map (λ (k : CountedSum). k.sum.0) parts

-- There are sums of all parts, and they are of the numbers of receipts and records that are held.
pub record HasCountsOf (kept : KeptSums) (state : State) : Type 0 where
  pub all : length kept.parts.items ≡ part_count
  pub receipts : kept.receipts ≡ length state.held
  pub first : CountedSum
  pub rest : List CountedSum
  pub parts : kept.parts.items ≡ first ∷ rest
  pub records : first.count ≡ length state.records

-- The sums are those of something that was held, and all of that is still held.
pub record AreKeptSums (kept : KeptSums) (state : State) : Type 0 where
  pub before : State
  pub rising : IsRisingBoth before
  pub grown : IsPartOf before state
  pub sums : ArePartSums before 0 kept.parts.items
  pub receipts : kept.receipts ≡ length before.held
