-- A copy of what is held.
use Rattle.std.proofs.Common.{◌≡◌, arith}
use Rattle.std.specs.List.Sorted.{IsStrictlySortedBy}
use Rattle.fed_config.specs.Configuration.{Configuration}
use Rattle.receipt_core.specs.Acceptance.{Meaning, IsMeaning}
use Rattle.closure_core.specs.Changes.{empty_of, union_of}

-- what is held without receipts and records is a meaning
empty_valid : (c : Configuration) → IsMeaning (empty_of c)
unfolding IsStrictlySortedBy
empty_valid c = record {
  receipts = tt;
  rising = tt;
  fitting = tt;
  few = omega arith;
  distrusts = tt;
  records_rising = tt;
  domains = tt;
  few_records = omega arith;
}

-- What an empty closure merges it means.
pub copied : ((m n : Meaning) → IsMeaning m → IsMeaning n → union_of m n ≡ record (union_of n m) { config = m.config }) → (m : Meaning)
    → IsMeaning m → union_of (empty_of m.config) m ≡ m
copied order m valid = order (empty_of m.config) m (empty_valid m.config) valid
