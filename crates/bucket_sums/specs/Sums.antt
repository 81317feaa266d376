-- The sums of what a replica holds.
use Rattle.std.specs.Prelude.{◌≡◌, ℕ, zero, suc, ◌+◌, ◌<◌, Bool, List, [], ◌∷◌, map, flat_map}
use Rattle.hex.specs.Hex.{encode_lower}
use Rattle.sha2.specs.Sha256.{sha256}
use Rattle.replica_core.specs.State.{State, ids_held}
use Rattle.replica_texts.specs.Messages.{record_text}
use Rattle.bucket_sums.specs.Lines.{differences}

-- the ids of a bucket's receipts, as one text: each is its 32 bytes
abbrev pub ids_text : List (List ℕ) → List ℕ
ids_text ids = flat_map (λ (id : List ℕ). id) ids

-- the SHA-256 of the ids of a bucket's receipts, in order
abbrev pub bucket_sum : State → ℕ → List ℕ
bucket_sum state bucket = sha256 (ids_text (ids_held state bucket))

-- the SHA-256 of the lines of all records, in order
abbrev pub records_sum : State → List ℕ
records_sum state = sha256 (flat_map record_text state.records)

-- the sums of this many buckets, from this one on
unfoldable pub bucket_sums_from : State → ℕ → ℕ → List (List ℕ)
bucket_sums_from state first zero = []
bucket_sums_from state first (suc more) = bucket_sum state first
    ∷ bucket_sums_from state (first + 1) more

-- the sums of all parts: of the records, and of each bucket
abbrev pub sums_of : State → List (List ℕ)
sums_of state = records_sum state ∷ bucket_sums_from state 0 256

-- No two lists of ids of these states have one SHA-256, and no two lists of records.
pub record HasDistinctSums (one other : State) : Type 0 where
  pub ids : (bucket : ℕ) → bucket < 256 → bucket_sum one bucket ≡ bucket_sum other bucket
      → ids_held one bucket ≡ ids_held other bucket
  pub records : records_sum one ≡ records_sum other → one.records ≡ other.records

-- the marks of one replica's question at the other
abbrev pub marks_between : State → State → List Bool
marks_between one other = differences (map encode_lower (sums_of one)) (sums_of other)
