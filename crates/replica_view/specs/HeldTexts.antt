-- What a replica holds, and what one replica holds and another one does not, as texts
use Rattle.std.specs.Prelude.{◌≡◌, ◌↔◌, ℕ, ◌⊎◌, List, [], ◌∷◌, ◌++◌, codes, Contains}
use Rattle.std.specs.Prelude.{Bool, true, false, not, Option, Some, None}
use Rattle.std.specs.Str.{bytes_eq}
use Rattle.receipt_core.specs.declared.distrust.Distrust.{Distrust}
use Rattle.receipt_core.specs.Receipt.{Receipt}
use Rattle.receipt_core.specs.Acceptance.{Meaning}
use Rattle.text_lines.specs.TextLines.{joined_lines}
use Rattle.replica_view.specs.HeldLines.{ShowsReceipt, ShowsRecord}

-- Each item is passed over or has a line, and these are the lines, in the order of the items.
abbrev pub AreLinesFor : {A : Type 0} → (A → Type 0) → (A → List ℕ → Type 0) → List A
    → List (List ℕ) → Type 0
AreLinesFor passed shows [] lines = lines ≡ []
AreLinesFor passed shows (x ∷ items) lines = (passed x × AreLinesFor passed shows items lines)
    ⊎ ((passed x → ⊥) × (line : List ℕ) × (others : List (List ℕ)) × (lines ≡ line ∷ others)
    × shows x line × AreLinesFor passed shows items others)

-- ---- all that is held, or only what is of one domain

-- another domain is chosen
abbrev pub is_left_aside : Option (List ℕ) → List ℕ → Bool
is_left_aside None domain = false
is_left_aside (Some chosen) domain = not (bytes_eq domain chosen)

abbrev pub IsReceiptOfOther : Option (List ℕ) → Receipt → Type 0
IsReceiptOfOther chosen r = is_left_aside chosen r.domain ≡ true

abbrev pub IsRecordOfOther : Option (List ℕ) → Distrust → Type 0
IsRecordOfOther chosen x = is_left_aside chosen x.domain ≡ true

-- the lines of the receipts, and then those of the records
pub record AreHeldLines (m : Meaning) (chosen : Option (List ℕ))
    (lines : List (List ℕ)) : Type 0 where
  pub receipts : List (List ℕ)
  pub each_receipt : AreLinesFor (IsReceiptOfOther chosen) (ShowsReceipt m []) m.held receipts
  pub records : List (List ℕ)
  pub each_record : AreLinesFor (IsRecordOfOther chosen) (ShowsRecord []) m.records records
  pub are : lines ≡ receipts ++ records

-- the text of these lines
pub record IsHeldText (m : Meaning) (chosen : Option (List ℕ)) (text : List ℕ) : Type 0 where
  pub lines : List (List ℕ)
  pub are : AreHeldLines m chosen lines
  pub is : text ≡ joined_lines lines

-- ---- what one holds and the other does not

-- the lines of such receipts, and then those of such records, each after the mark
pub record AreLackedLines (one other : Meaning) (mark : List ℕ)
    (lines : List (List ℕ)) : Type 0 where
  pub receipts : List (List ℕ)
  pub each_receipt : AreLinesFor (Contains other.held) (ShowsReceipt one mark) one.held receipts
  pub records : List (List ℕ)
  pub each_record : AreLinesFor (Contains other.records) (ShowsRecord mark) one.records records
  pub are : lines ≡ receipts ++ records

-- the lines of what only the one holds, and then of what only the other holds
pub record AreDifferenceLines (one other : Meaning) (lines : List (List ℕ)) : Type 0 where
  pub lacked : List (List ℕ)
  pub are_lacked : AreLackedLines one other (codes "- ") lacked
  pub gained : List (List ℕ)
  pub are_gained : AreLackedLines other one (codes "+ ") gained
  pub are : lines ≡ lacked ++ gained

-- the text of these lines
pub record IsHeldDifference (one other : Meaning) (text : List ℕ) : Type 0 where
  pub lines : List (List ℕ)
  pub are : AreDifferenceLines one other lines
  pub is : text ≡ joined_lines lines

-- the same receipts and the same records
pub record HoldSame (one other : Meaning) : Type 0 where
  pub receipts : (r : Receipt) → (Contains one.held r ↔ Contains other.held r)
  pub records : (x : Distrust) → (Contains one.records x ↔ Contains other.records x)
