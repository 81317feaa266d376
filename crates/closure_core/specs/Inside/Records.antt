-- Records of distrust by the numbers of domains
use Rattle.std.specs.Prelude.{ℕ, ◌<◌, List, [], map, slice_index_or}
use Rattle.std.specs.List.{AllByRecursion}
use Rattle.receipt_core.specs.declared.distrust.Distrust.{Distrust}
use Rattle.closure_core.specs.declared.record.Record.{Record}

abbrev pub distrust_by : List (List ℕ) → Record → Distrust
distrust_by domains r = record { domain = slice_index_or domains r.domain []; key = r.key }

abbrev pub distrusts_of : List (List ℕ) → List Record → List Distrust
distrusts_of domains records = map (distrust_by domains) records

-- each number is below this one
abbrev pub AreWithin : ℕ → List Record → Type 0
AreWithin count records = AllByRecursion (λ r. r.domain < count) records
