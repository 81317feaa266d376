-- What a replica holds, and what it does with it: the terms of this crate's contracts.
use Rattle.std.specs.Prelude.{ℕ, ◌-◌, Bool, ◌==◌, ◌&&◌, not, nat_le, List, [], length, map, filter}
use Rattle.std.specs.Prelude.{take, slice_index_or, bytes_eq}
use Rattle.std.specs.declared.cmp.Ordering.{Ordering}
use Rattle.std.specs.Ordering.{nat_cmp}
use Rattle.std.specs.Cmp.Lexicographic.{slice_cmp}
use Rattle.std.specs.List.{list_any}
use Rattle.fed_config.specs.Configuration.{Configuration}
use Rattle.fed_config.specs.declared.limits.Limits.{Limits}
use Rattle.receipt_core.specs.declared.distrust.Distrust.{Distrust}
use Rattle.receipt_core.specs.Receipt.{Receipt, receipt_id_of, receipt_cmp, distrust_cmp}
use Rattle.receipt_core.specs.Rising.{with_items}
use Rattle.receipt_core.specs.Acceptance.{Meaning}
use Rattle.receipt_core.specs.Limits.{receipt_limit, record_limit}

-- a set of receipts and a set of records of distrust, each kept as a sorted list
pub record State : Type 0 where
  pub held : List Receipt
  pub records : List Distrust

abbrev pub no_state : State
no_state = record { held = []; records = [] }

-- what is held, with all that is gained
abbrev pub joined : State → State → State
joined state gain = record {
  held = with_items receipt_cmp gain.held state.held;
  records = with_items distrust_cmp gain.records state.records;
}

-- how many receipts and records may be held under the configuration
abbrev pub limits_of : Configuration → Limits
limits_of config = record { receipts = receipt_limit config; records = record_limit config }

-- at most this many receipts and records are held
abbrev pub is_within_limits : Limits → State → Bool
is_within_limits limits state = nat_le (length state.held) limits.receipts && nat_le
    (length state.records) limits.records

-- the byte with which the receipt's id begins
abbrev pub bucket_of_id : Receipt → ℕ
bucket_of_id r = slice_index_or (receipt_id_of r) 0 0

abbrev pub is_of_bucket : ℕ → Receipt → Bool
is_of_bucket bucket r = bucket_of_id r == bucket

abbrev pub id_cmp : List ℕ → List ℕ → Ordering
id_cmp = slice_cmp nat_cmp

-- the ids of a bucket's receipts, each once, sorted
abbrev pub ids_held : State → ℕ → List (List ℕ)
ids_held state bucket = with_items id_cmp
    (map receipt_id_of (filter (is_of_bucket bucket) state.held)) []

-- the most ids that a have names, so that its line is within the limit of lines
abbrev pub most_named : ℕ
most_named = 65536

-- the ids that a have names: those of a bucket, and only the first if there are more
abbrev pub ids_named : State → ℕ → List (List ℕ)
ids_named state bucket = take most_named (ids_held state bucket)

abbrev pub is_named : List (List ℕ) → Receipt → Bool
is_named ids r = list_any (λ id. bytes_eq id (receipt_id_of r)) ids

-- the bucket's receipts whose ids are not named
abbrev pub receipts_lacking : State → ℕ → List (List ℕ) → List Receipt
receipts_lacking state bucket ids = filter (λ r. is_of_bucket bucket r && not (is_named ids r))
    state.held

-- an answer that was cut: records come before receipts
abbrev pub first_of : ℕ → State → State
first_of count gain = record {
  held = take (count - length gain.records) gain.held;
  records = take count gain.records;
}

-- what a closure with this configuration and these sets means
abbrev pub meaning_of_state : Configuration → State → Meaning
meaning_of_state config
    state = record { config = config; held = state.held; records = state.records }
