-- What a replica that pulls is given, in pieces: the answers of which they are parts, what is taken
-- of each piece, and what is asked.
use Rattle.std.specs.Prelude.{◌≡◌, ◌≢◌, ℕ, ◌+◌, ◌-◌, ◌<◌, ◌⊎◌, List, [], ◌∷◌, ◌++◌, length, map}
use Rattle.std.specs.Prelude.{flat_map, take, Option, Result, Ok, Err}
use Rattle.fed_config.specs.Configuration.{Configuration}
use Rattle.receipt_core.specs.Acceptance.{Meaning}
use Rattle.replica_core.specs.Absorbing.{entries_of, with_entries, with_entry}
use Rattle.replica_core.specs.Session.{GiveMessage, HaveMessage, have_of}
use Rattle.replica_core.specs.State.{State, joined}
use Rattle.replica_core.specs.declared.entry.Entry.{Entry}
use Rattle.replica_core.specs.declared.error.SyncError.{SyncError}
use Rattle.replica_texts.specs.Messages.{give_text}
use Rattle.replica_sync.specs.Plans.{bucket_at}
use Rattle.replica_sync.specs.Pulling.{IsGiveAbout, have_in, line_count}
use Rattle.replica_texts.specs.SoleLines.{IsWellFormed}
use Rattle.replica_journal.specs.Journal.{AreWellFormed, entry_text}

-- ---- one call

-- It was not held and is held now, and its line is appended.
pub record JournalsEntry (old new : Meaning) (before after : List ℕ) : Type 0 where
  pub entry : Entry
  pub form : IsWellFormed entry
  pub meaning : new ≡ with_entry entry old
  pub changed : new ≢ old
  pub text : after ≡ before ++ entry_text entry

-- All that changes is appended to the journal: one receipt or one record at most.
abbrev pub Journals : Meaning → Meaning → List ℕ → List ℕ → Type 0
Journals old new before after = ((new ≡ old) × (after ≡ before))
    ⊎ JournalsEntry old new before after

-- Each was not held if those before it are held.
abbrev pub AreNewInTurn : Meaning → List Entry → Type 0
AreNewInTurn m [] = Unit {0}
AreNewInTurn m (entry ∷ entries) = (with_entry entry m ≢ m)
    × AreNewInTurn (with_entry entry m) entries

-- All that changes is appended to the journal, in order.
pub record JournalsAll (old new : Meaning) (before after : List ℕ) : Type 0 where
  pub entries : List Entry
  pub forms : AreWellFormed entries
  pub meaning : new ≡ with_entries entries old
  pub changed : AreNewInTurn old entries
  pub text : after ≡ before ++ flat_map entry_text entries

-- bytes that a call took, and what was held before and after it
pub record PulledPiece : Type 0 where
  pub bytes : List ℕ
  pub old : Meaning
  pub new : Meaning

-- what came by a call: the bytes that it took; or all, if there is an error among them
abbrev pub piece_pulled : List ℕ → Meaning → Meaning → Result ℕ SyncError → PulledPiece
piece_pulled piece old new (Ok used) = record { bytes = take used piece; old = old; new = new }
piece_pulled piece old new (Err e) = record { bytes = piece; old = old; new = new }

-- the bytes that came by a call: those that it took; or all, if there is an error among them
abbrev pub bytes_read : List ℕ → Result ℕ SyncError → List ℕ
bytes_read piece (Ok used) = take used piece
bytes_read piece (Err e) = piece

-- ---- all calls

abbrev pub bytes_pulled : List PulledPiece → List ℕ
bytes_pulled came = flat_map (λ (c : PulledPiece). c.bytes) came

-- The entries are taken in turn, each by one piece, and nothing else is taken.
abbrev pub TakesInTurn : List PulledPiece → List Entry → Type 0
TakesInTurn [] [] = Unit {0}
TakesInTurn [] (entry ∷ entries) = ⊥
TakesInTurn (c ∷ came) [] = (c.new ≡ c.old) × TakesInTurn came []
TakesInTurn (c ∷ came) (entry ∷ entries) =
    ((c.new ≡ c.old) × TakesInTurn came (entry ∷ entries))
    ⊎ ((c.new ≡ with_entry entry c.old) × TakesInTurn came entries)

-- how many receipts were taken that were not held
abbrev pub receipts_pulled : List PulledPiece → ℕ
receipts_pulled [] = 0
receipts_pulled (c ∷ came) = (length c.new.held - length c.old.held) + receipts_pulled came

-- Between two of the pieces nothing changes, and this is held before the first one and after the
-- last one.
abbrev pub AreAlone : Meaning → List PulledPiece → Meaning → Type 0
AreAlone before [] after = after ≡ before
AreAlone before (c ∷ came) after = (c.old ≡ before) × AreAlone c.new came after

-- ---- whole answers

-- an answer, and the pieces in which it came
pub record PulledGive : Type 0 where
  pub give : GiveMessage
  pub before : List PulledPiece
  pub last : PulledPiece

abbrev pub pieces_of : PulledGive → List PulledPiece
pieces_of g = g.before ++ g.last ∷ []

abbrev pub gives_of : List PulledGive → List GiveMessage
gives_of gives = map (λ (g : PulledGive). g.give) gives

-- The pieces are the answer about the bucket, the last one ends it, and what it has is taken.
pub record IsPulledGive (config : Configuration) (bucket : ℕ) (g : PulledGive) : Type 0 where
  pub about : IsGiveAbout config bucket g.give
  pub text : bytes_pulled (pieces_of g) ≡ give_text g.give
  pub ends : 0 < length g.last.bytes
  pub takes : TakesInTurn (pieces_of g) (entries_of g.give.content)

-- the answers about the bucket in this place of the plan and those after it, one each
abbrev pub ArePulledGives : Option (List ℕ) → Configuration → ℕ → List PulledGive → Type 0
ArePulledGives plan config place [] = Unit {0}
ArePulledGives plan config place (g ∷ gives) = IsPulledGive config (bucket_at plan place) g
    × ArePulledGives plan config (place + 1) gives

-- These answers came whole, and then these pieces.
pub record PulledGives (plan : Option (List ℕ)) (start : Meaning) (came : List PulledPiece)
    (gives : List PulledGive) (later : List PulledPiece) : Type 0 where
  pub order : came ≡ flat_map pieces_of gives ++ later
  pub each : ArePulledGives plan start.config 0 gives

-- ---- what is asked

-- what is held when the last of the answers ends
abbrev pub held_at_end : Meaning → List PulledGive → Meaning
held_at_end held [] = held
held_at_end held (g ∷ gives) = held_at_end g.last.new gives

-- The haves to which these are the answers: each is made of what is held when the answer before it
-- ends.
abbrev pub haves_pulled : Option (List ℕ) → Meaning → ℕ → List PulledGive → List HaveMessage
haves_pulled plan held place [] = []
haves_pulled plan held place (g ∷ gives) = have_of held (bucket_at plan place)
    ∷ haves_pulled plan g.last.new (place + 1) gives

-- these, and the next one
abbrev pub haves_asked : Option (List ℕ) → Meaning → List PulledGive → List HaveMessage
haves_asked plan start gives = haves_pulled plan start 0 gives
    ++ have_of (held_at_end start gives) (bucket_at plan (length gives)) ∷ []

-- The haves about the buckets of the plan to which these are the answers: each has the ids that
-- were held when it was asked.
abbrev pub haves_planned : Option (List ℕ) → Configuration → ℕ → State → List GiveMessage
    → List HaveMessage
haves_planned plan config place state [] = []
haves_planned plan config place state (give ∷ gives) = have_in config state (bucket_at plan place)
    ∷ haves_planned plan config (place + 1) (joined state give.content) gives

-- how many lines the answers have
abbrev pub lines_pulled : List PulledGive → ℕ
lines_pulled gives = line_count (gives_of gives)
