-- How the ids of a have's line are taken, one by one.
use Rattle.std.specs.Prelude.{◌≡◌, ℕ, List, [], ◌∷◌, ◌==◌, Bool, not, codes, Option, Some, None}
use Rattle.std.specs.Borrow.{Bor}
use Rattle.std.specs.List.{join_by}
use Rattle.receipt_core.specs.declared.receipt_id.ReceiptId.{ReceiptId}
use Rattle.replica_texts.specs.Messages.{quoted}

-- not the bracket that closes a list
abbrev pub is_inside : ℕ → Bool
is_inside byte = not (byte == 93)

-- of these ids the first is taken, and the others come after it
abbrev pub TakesId : List (List ℕ) → Option (ReceiptId × Bor (List ℕ)) → Type 0
TakesId [] found = found ≡ None
TakesId (id ∷ later) None = ⊥
TakesId (id ∷ later) (Some r) = (r.0.0 ≡ id) × (r.1.now ≡ join_by quoted (codes ",") later)
