-- What a closure holds after something was offered to it: what fits its configuration among all
-- that it held and all that was offered.
use Rattle.std.specs.Prelude.{◌≡◌, ◌⊎◌, ℕ, List, Contains}
use Rattle.receipt_core.specs.Acceptance.{Meaning}
use Rattle.replica_core.specs.declared.entry.Entry.{Entry}
use Rattle.replica_texts.specs.Entries.{entry_line}
use Rattle.replica_texts.specs.SoleLines.{IsWellFormed}
use Rattle.side_by_side.specs.Offering.{FitsEntry, IsEntryHeld, IsFullFor}

-- One of the lines says it.
pub record LinesSay (texts : List (List ℕ)) (entry : Entry) : Type 0 where
  pub form : IsWellFormed entry
  pub line : Contains texts (entry_line entry)

-- Nothing is lost, and nothing is added that was not offered or does not fit.
pub record AddsOnlyFitting (old : Meaning) (IsOffered : Entry → Type 0)
    (new : Meaning) : Type 0 where
  pub config : new.config ≡ old.config
  pub keeps : (entry : Entry) → IsEntryHeld old entry → IsEntryHeld new entry
  pub only : (entry : Entry) → IsEntryHeld new entry
      → IsEntryHeld old entry ⊎ (IsOffered entry × FitsEntry old.config entry)

-- What was offered and fits is held, unless the closure is full of its kind.
abbrev pub TakesFitting : Meaning → (Entry → Type 0) → Meaning → Type 0
TakesFitting old IsOffered new = (entry : Entry) → IsOffered entry
    → FitsEntry old.config entry → IsEntryHeld new entry ⊎ IsFullFor new entry

pub record AddsFitting (old : Meaning) (IsOffered : Entry → Type 0) (new : Meaning) : Type 0 where
  pub only : AddsOnlyFitting old IsOffered new
  pub all : TakesFitting old IsOffered new
