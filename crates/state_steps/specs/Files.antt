-- The files of a state on a disk, and what is found in them after a stop: the process is killed, or
-- the machine loses its power.
use Rattle.std.specs.Prelude.{◌≡◌, ◌+◌, ◌≤◌, ℕ, ◌⊎◌, ◌++◌, List, [], ◌∷◌, Contains, length}
use Rattle.std.specs.Prelude.{replicate, take}
use Rattle.byte_lines.specs.Lines.{lines_of}

-- ---- files and names

-- a file: what of its text is on the disk, and what was written behind that since
pub record FileText : Type 0 where
  pub kept : List ℕ
  pub since : List ℕ

-- All of the text is on the disk. A file that is not there is read as an empty one: `kept_file []`.
abbrev pub kept_file : List ℕ → FileText
kept_file text = record { kept = text; since = [] }

-- Nothing of the text is on the disk.
abbrev pub unkept_file : List ℕ → FileText
unkept_file text = record { kept = []; since = text }

-- The system has put the file on the disk.
abbrev pub synced_file : FileText → FileText
synced_file file = kept_file (file.kept ++ file.since)

-- A stop may leave this of bytes that are not on the disk: the first ones and, after a cut of
-- power, zeros in the place of others.
abbrev pub IsRemnantOf : List ℕ → List ℕ → Type 0
IsRemnantOf bytes part = (size zeros : ℕ) × (size + zeros ≤ length bytes)
    × (part ≡ take size bytes ++ replicate zeros 0)

-- So of a file all that is on the disk is left, and a part of what was written since.
abbrev pub IsLeftOf : FileText → List ℕ → Type 0
IsLeftOf file text = (part : List ℕ) × IsRemnantOf file.since part × (text ≡ file.kept ++ part)

-- A name has files: the first one for who opens it now, and after a stop any of them.
abbrev pub IsFoundAt : List FileText → List ℕ → Type 0
IsFoundAt [] text = ⊥
IsFoundAt (file ∷ files) text = IsLeftOf file text ⊎ IsFoundAt files text

-- what a file has for who reads it now
abbrev pub text_now : FileText → List ℕ
text_now file = file.kept ++ file.since

-- The system has put the folder on the disk: the name has only its first file.
abbrev pub settled_name : List FileText → List FileText
settled_name [] = []
settled_name (file ∷ files) = file ∷ []

-- the first file of the name is changed
abbrev pub with_first : (FileText → FileText) → List FileText → List FileText
with_first change [] = []
with_first change (file ∷ files) = change file ∷ files

abbrev pub IsFirstFile : FileText → List FileText → Type 0
IsFirstFile file [] = ⊥
IsFirstFile file (first ∷ files) = first ≡ file

abbrev pub HasOneFile : List FileText → Type 0
HasOneFile (file ∷ []) = Unit {0}
HasOneFile _ = ⊥

-- ---- the files of a state

-- the new snapshot or the new journal, whose name nobody reads; the snapshot; and its journal
pub record StateDisk : Type 0 where
  pub new : FileText
  pub snapshot : List FileText
  pub journal : List FileText

-- the text has the line as a whole one
abbrev pub HasWholeLine : List ℕ → List ℕ → Type 0
HasWholeLine text line = Contains (lines_of text).whole line

-- Whatever a stop leaves of them, the line is a whole one of the snapshot or of the journal.
abbrev pub AreKeeping : List FileText → List FileText → List ℕ → Type 0
AreKeeping snapshots journals line = (snapshot journal : List ℕ) → IsFoundAt snapshots snapshot
    → IsFoundAt journals journal → HasWholeLine snapshot line ⊎ HasWholeLine journal line

abbrev pub KeepsLine : StateDisk → List ℕ → Type 0
KeepsLine disk line = AreKeeping disk.snapshot disk.journal line

-- The line is a whole one of what the disk has of the journal.
abbrev pub IsJournalled : List FileText → List ℕ → Type 0
IsJournalled [] line = ⊥
IsJournalled (file ∷ files) line = HasWholeLine file.kept line

-- The line is a whole one of whatever a stop leaves of the snapshot.
abbrev pub SnapshotsKeep : List FileText → List ℕ → Type 0
SnapshotsKeep snapshots line = (snapshot : List ℕ) → IsFoundAt snapshots snapshot
    → HasWholeLine snapshot line

-- ---- what is appended to the journal

-- with these bytes at the end, of which none is on the disk
abbrev pub longer_file : List ℕ → FileText → FileText
longer_file bytes file = record { kept = file.kept; since = file.since ++ bytes }

-- These bytes are appended to the journal, and not on the disk yet.
abbrev pub appending : List ℕ → StateDisk → StateDisk
appending bytes disk = record disk { journal = with_first (longer_file bytes) disk.journal }

-- These bytes are appended to the journal, and on the disk.
abbrev pub appended : List ℕ → StateDisk → StateDisk
appended bytes disk = record disk {
  journal = with_first (λ file. synced_file (longer_file bytes file)) disk.journal;
}
