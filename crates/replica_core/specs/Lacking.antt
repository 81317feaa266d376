-- The receipts that a have leaves out.
use Rattle.std.specs.Prelude.{ℕ, List, filter, not}
use Rattle.receipt_core.specs.Receipt.{Receipt}
use Rattle.replica_core.specs.State.{is_named}

abbrev pub not_named : List (List ℕ) → List Receipt → List Receipt
not_named ids receipts = filter (λ r. not (is_named ids r)) receipts
