-- Lemmas on single steps: what they keep, and what is left of those that failed.
use Rattle.std.proofs.Common.{◌≡◌, ℕ, ◌⊎◌, inl, inr, List, [], ◌∷◌, ◌++◌, sym, ap, arith}
use Rattle.state_steps.specs.Files.{AreKeeping, FileText, HasOneFile, HasWholeLine, IsFirstFile, IsJournalled}
use Rattle.state_steps.specs.Files.{SnapshotsKeep, StateDisk, kept_file, settled_name, synced_file, unkept_file, with_first}
use Rattle.state_steps.specs.Steps.{StateTexts}
use Rattle.state_steps.proofs.LineFacts.{found_settled, journal_has, kept_has, nothing_left}

-- ---- what keeps a line

-- A snapshot that has the line, on the disk under its name, keeps it.
pub snapshot_keeps : (snapshots journals : List FileText) (text line : List ℕ) → snapshots ≡ kept_file text ∷ []
    → HasWholeLine text line → AreKeeping snapshots journals line
snapshot_keeps snapshots journals text line is has snapshot journal at_snapshot at_journal =
    inl (kept_has snapshots text snapshot line is at_snapshot has)

-- So does each file that a stop may leave under the snapshot's name.
pub snapshots_keep : (snapshots : List FileText) (text line : List ℕ) → snapshots ≡ kept_file text ∷ []
    → HasWholeLine text line → SnapshotsKeep snapshots line
snapshots_keep snapshots text line is has snapshot at_snapshot = kept_has snapshots text snapshot line is at_snapshot has

-- If the snapshot alone keeps a line, the line is kept whatever the journal is.
pub alone_keeps : (snapshots journals : List FileText) (line : List ℕ) → SnapshotsKeep snapshots line
    → AreKeeping snapshots journals line
alone_keeps snapshots journals line keeps snapshot journal at_snapshot at_journal = inl (keeps snapshot at_snapshot)

-- an empty text has no line
pub none_whole : (line : List ℕ) → HasWholeLine [] line → ⊥
none_whole line has = omega (arith, has.1)

-- If nobody finds a journal, the snapshot alone keeps each line.
pub without_journal : (snapshots journals : List FileText) (line : List ℕ) → IsFirstFile (kept_file []) journals
    → AreKeeping snapshots journals line → SnapshotsKeep snapshots line
without_journal snapshots [] line first keeping snapshot at_snapshot = absurd first
without_journal snapshots (own ∷ files) line first keeping snapshot at_snapshot =
    elim (keeping snapshot [] at_snapshot (inl ([], nothing_left own.since, sym (ap (λ (f : FileText). f.kept ++ []) first)))) [
      | inl has ↦ has
      | inr none ↦ absurd (none_whole line none)
    ]

-- ---- names

-- the first file of a name, on the disk under it
pub settled_first : (name : List FileText) (file : FileText) → IsFirstFile file name → settled_name name ≡ file ∷ []
settled_first [] file first = absurd first
settled_first (own ∷ files) file first = ap (λ f. f ∷ []) first

pub one_settled : (name : List FileText) (file : FileText) → IsFirstFile file name → HasOneFile (settled_name (with_first synced_file name))
one_settled [] file first = absurd first
one_settled (own ∷ files) file first = tt

-- The first file of a name, put on the disk with the folder.
pub settled_synced : (name : List FileText) (text : List ℕ) → IsFirstFile (unkept_file text) name
    → settled_name (with_first synced_file name) ≡ kept_file text ∷ []
settled_synced [] text first = absurd first
settled_synced (own ∷ files) text first = ap (λ f. synced_file f ∷ []) first

-- The new snapshot, on the disk, or the journal has the line.
pub replaced_keeps : (texts : StateTexts) (disk : StateDisk) (line : List ℕ) → HasOneFile disk.journal
    → disk.new ≡ kept_file texts.snapshot → HasWholeLine texts.snapshot line ⊎ IsJournalled disk.journal line
    → AreKeeping (disk.new ∷ []) disk.journal line
replaced_keeps texts disk line one is (inl has) snapshot journal at_snapshot at_journal =
    snapshot_keeps (disk.new ∷ []) disk.journal texts.snapshot line (ap (λ file. file ∷ []) is) has
    snapshot journal at_snapshot at_journal
replaced_keeps texts disk line one is (inr has) snapshot journal at_snapshot at_journal =
    inr (journal_has disk.journal journal line one at_journal has)

-- A name keeps what its first file and the others keep.
pub keeping_both : (new : FileText) (snapshots journals : List FileText) (line : List ℕ) → AreKeeping (new ∷ []) journals line
    → AreKeeping snapshots journals line → AreKeeping (new ∷ snapshots) journals line
keeping_both new snapshots journals line first others snapshot journal (inl left) at_journal = first snapshot journal (inl left) at_journal
keeping_both new snapshots journals line first others snapshot journal (inr found) at_journal = others snapshot journal found at_journal

pub keeping_settled : (snapshots journals : List FileText) (line : List ℕ) → AreKeeping snapshots journals line
    → AreKeeping (settled_name snapshots) journals line
keeping_settled snapshots journals line keeping snapshot journal at_snapshot at_journal =
    keeping snapshot journal (found_settled snapshots snapshot at_snapshot) at_journal
