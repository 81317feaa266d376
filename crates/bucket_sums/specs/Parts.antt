-- The parts of what is held: the records are part 0, and bucket b is part b + 1.
use Rattle.std.specs.Prelude.{ℕ, zero, suc, List, length}
use Rattle.closure_core.specs.AcceptedList.{receipts_in}
use Rattle.replica_core.specs.State.{State}
use Rattle.bucket_sums.specs.Sums.{bucket_sum, records_sum}

-- how many receipts or records a part has
abbrev pub count_in : State → ℕ → ℕ
count_in state zero = length state.records
count_in state (suc bucket) = length (receipts_in bucket state.held)

-- the sum of a part
abbrev pub part_sum : State → ℕ → List ℕ
part_sum state zero = records_sum state
part_sum state (suc bucket) = bucket_sum state bucket
