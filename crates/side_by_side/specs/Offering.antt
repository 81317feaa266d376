-- What comes of receipts and records of distrust that are offered to a closure: it takes what fits
-- its configuration, and its journal gets the lines of what it took.
use Rattle.std.specs.Prelude.{◌≡◌, ◌≤◌, ◌+◌, ℕ, List, [], ◌∷◌, ◌++◌, length, Contains, fold}
use Rattle.fed_config.specs.Configuration.{Configuration, HasDomain}
use Rattle.receipt_core.specs.Acceptance.{Meaning, IsFitting}
use Rattle.receipt_core.specs.Limits.{receipt_limit, record_limit}
use Rattle.replica_core.specs.Absorbing.{with_entry}
use Rattle.replica_core.specs.declared.entry.Entry.{Entry}
use Rattle.replica_core.specs.declared.entry.Entry.TheVariants.{Record, Receipt as AReceipt}
use Rattle.replica_texts.specs.Entries.{IsEntry, IsNoLineOf}
use Rattle.replica_texts.specs.declared.entry_line.Wanted.TheVariants.{Either}
use Rattle.replica_journal.specs.Journal.{entry_text}
use Rattle.side_by_side.specs.declared.fate.Fate.{Fate}
use Rattle.side_by_side.specs.declared.fate.Fate.TheVariants.{Taken, Held, Unfit, NoPlace, Unread}
use Rattle.side_by_side.specs.declared.offer_counts.Offered.{Offered}

-- ---- one receipt or one record

-- It is held.
abbrev pub IsEntryHeld : Meaning → Entry → Type 0
IsEntryHeld m (Record x) = Contains m.records x
IsEntryHeld m (AReceipt r) = Contains m.held r

-- It fits the configuration: a record if its domain is one of it, and a receipt if its domain has
-- a relationship with its endpoint, and no floor above its document.
abbrev pub FitsEntry : Configuration → Entry → Type 0
FitsEntry c (Record x) = HasDomain c x.domain
FitsEntry c (AReceipt r) = IsFitting c r

-- The closure is full of its kind.
abbrev pub IsFullFor : Meaning → Entry → Type 0
IsFullFor m (Record x) = record_limit m.config ≤ length m.records
IsFullFor m (AReceipt r) = receipt_limit m.config ≤ length m.held

-- It fits, was not held, had a place, and is held now.
pub record HasTakenOffered (old : Meaning) (entry : Entry) (new : Meaning) : Type 0 where
  pub fits : FitsEntry old.config entry
  pub unheld : IsEntryHeld old entry → ⊥
  pub place : IsFullFor old entry → ⊥
  pub meaning : new ≡ with_entry entry old

-- It fits, is not held, and has no place.
pub record LacksPlace (m : Meaning) (entry : Entry) : Type 0 where
  pub fits : FitsEntry m.config entry
  pub unheld : IsEntryHeld m entry → ⊥
  pub full : IsFullFor m entry

-- what came of it; all but a take changes nothing
abbrev pub TakesAs : Meaning → Entry → Meaning → Fate → Type 0
TakesAs old entry new Taken = HasTakenOffered old entry new
TakesAs old entry new Held = (new ≡ old) × IsEntryHeld old entry
TakesAs old entry new Unfit = (new ≡ old) × (FitsEntry old.config entry → ⊥)
TakesAs old entry new NoPlace = (new ≡ old) × LacksPlace old entry
TakesAs old entry new Unread = ⊥

-- ---- with the journal

-- what a closure holds, and its journal
pub record Kept : Type 0 where
  pub meaning : Meaning
  pub journal : List ℕ

abbrev pub as_kept : Meaning → List ℕ → Kept
as_kept meaning journal = record { meaning = meaning; journal = journal }

-- A journal gets the line of what was taken, and nothing else.
abbrev pub journalled : Fate → Entry → List ℕ → List ℕ
journalled Taken entry journal = journal ++ entry_text entry
journalled Held entry journal = journal
journalled Unfit entry journal = journal
journalled NoPlace entry journal = journal
journalled Unread entry journal = journal

pub record OffersEntry (old : Kept) (entry : Entry) (new : Kept) (fate : Fate) : Type 0 where
  pub takes : TakesAs old.meaning entry new.meaning fate
  pub journal : new.journal ≡ journalled fate entry old.journal

-- The line says a receipt or a record, and that is offered.
pub record OffersSaid (old : Kept) (text : List ℕ) (new : Kept) (fate : Fate) : Type 0 where
  pub entry : Entry
  pub is : IsEntry Either text entry
  pub offers : OffersEntry old entry new fate

-- what came of a line; one that says neither changes nothing
abbrev pub OffersLine : Kept → List ℕ → Kept → Fate → Type 0
OffersLine old text new Taken = OffersSaid old text new Taken
OffersLine old text new Held = OffersSaid old text new Held
OffersLine old text new Unfit = OffersSaid old text new Unfit
OffersLine old text new NoPlace = OffersSaid old text new NoPlace
OffersLine old text new Unread = (new ≡ old) × IsNoLineOf Either text

-- ---- all lines

-- The lines are offered one after another, and this came of each.
abbrev pub OffersInTurn : Kept → List (List ℕ) → Kept → List Fate → Type 0
OffersInTurn old [] new [] = new ≡ old
OffersInTurn old [] new (fate ∷ fates) = ⊥
OffersInTurn old (text ∷ texts) new [] = ⊥
OffersInTurn old (text ∷ texts) new (fate ∷ fates) = (between : Kept)
    × OffersLine old text between fate × OffersInTurn between texts new fates

abbrev pub none_offered : Offered
none_offered = record { taken = 0; held = 0; unfit = 0; no_place = 0; unread = 0 }

-- one line more
abbrev pub counted_fate : Fate → Offered → Offered
counted_fate Taken o = record o { taken = o.taken + 1 }
counted_fate Held o = record o { held = o.held + 1 }
counted_fate Unfit o = record o { unfit = o.unfit + 1 }
counted_fate NoPlace o = record o { no_place = o.no_place + 1 }
counted_fate Unread o = record o { unread = o.unread + 1 }

abbrev pub counted_all : List Fate → Offered → Offered
counted_all fates before = fold (λ offered fate. counted_fate fate offered) before fates

-- These lines were offered, and are counted by what came of each, with those counted before.
pub record OffersLines (old : Kept) (texts : List (List ℕ)) (new : Kept)
    (before after : Offered) : Type 0 where
  pub fates : List Fate
  pub each : OffersInTurn old texts new fates
  pub counts : after ≡ counted_all fates before

-- These lines were offered, and the counts are those of what came of each.
abbrev pub HasOffered : Kept → List (List ℕ) → Kept → Offered → Type 0
HasOffered old texts new offered = OffersLines old texts new none_offered offered

-- The first of these lines were offered, and one more is there.
pub record HasOfferedPart (old : Kept) (texts : List (List ℕ)) (new : Kept) : Type 0 where
  pub done : List (List ℕ)
  pub next : List ℕ
  pub later : List (List ℕ)
  pub fates : List Fate
  pub lines : texts ≡ done ++ next ∷ later
  pub each : OffersInTurn old done new fates
