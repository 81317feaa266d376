-- A fold: all that is held is written as a new snapshot, which takes the place of the old one, and
-- then the journal is emptied.
use Rattle.std.specs.Prelude.{◌≡◌, ℕ, ◌⊎◌, Bool, true, false, List, [], ◌∷◌, Option, None, Some}
use Rattle.state_steps.specs.Files.{HasOneFile, HasWholeLine, IsFirstFile, IsJournalled}
use Rattle.state_steps.specs.Files.{KeepsLine, StateDisk, kept_file, unkept_file}
use Rattle.state_steps.specs.Steps.{StateTexts}
use Rattle.state_steps.specs.declared.folding.FoldEnd.{FoldEnd}
use Rattle.state_steps.specs.declared.folding.FoldEnd.TheVariants.{JournalContinues, ReplicaEnds}
use Rattle.state_steps.specs.declared.folding.Folding.{Folding}
use Rattle.state_steps.specs.declared.file_step.FileStep.{FileStep}
use Rattle.state_steps.specs.declared.file_step.FileStep.TheVariants.{WriteSnapshot, SyncSnapshot}
use Rattle.state_steps.specs.declared.file_step.FileStep.TheVariants.{ReplaceSnapshot, SyncFolder}
use Rattle.state_steps.specs.declared.file_step.FileStep.TheVariants.{RemoveJournal, BeginJournal}
use Rattle.state_steps.specs.declared.file_step.FileStep.TheVariants.{SyncJournal}

-- ---- the order of the steps

-- the step after this one: the journal is emptied only if the new snapshot has all of it
abbrev pub following_step : Bool → Option FileStep → Option FileStep
following_step whole (Some WriteSnapshot) = Some SyncSnapshot
following_step whole (Some SyncSnapshot) = Some ReplaceSnapshot
following_step whole (Some ReplaceSnapshot) = Some SyncFolder
following_step true (Some SyncFolder) = Some BeginJournal
following_step false (Some SyncFolder) = None
following_step whole (Some BeginJournal) = Some SyncJournal
following_step whole (Some SyncJournal) = None
following_step whole (Some RemoveJournal) = None
following_step whole None = None

-- how many steps it takes to empty the journal
abbrev pub steps_left : Option FileStep → ℕ
steps_left (Some WriteSnapshot) = 6
steps_left (Some SyncSnapshot) = 5
steps_left (Some ReplaceSnapshot) = 4
steps_left (Some SyncFolder) = 3
steps_left (Some BeginJournal) = 2
steps_left (Some SyncJournal) = 1
steps_left (Some RemoveJournal) = 0
steps_left None = 0

-- the next step when lines were appended: the journal is not emptied of them
abbrev pub next_with_lines : Option FileStep → Option FileStep
next_with_lines (Some BeginJournal) = None
next_with_lines step = step

-- whether the new snapshot has all lines then: if it is not begun, they will be in it, and a fold
-- that is over is as it was
abbrev pub whole_with_lines : Bool → Option FileStep → Bool
whole_with_lines whole (Some WriteSnapshot) = whole
whole_with_lines whole None = whole
whole_with_lines whole _ = false

-- ---- how far a fold has come

-- the files, when this step is due (no fold removes the journal)
abbrev pub IsDueOn : StateTexts → Option FileStep → StateDisk → Type 0
IsDueOn texts (Some WriteSnapshot) disk = HasOneFile disk.journal
IsDueOn texts (Some SyncSnapshot) disk = HasOneFile disk.journal
    × (disk.new ≡ unkept_file texts.snapshot)
IsDueOn texts (Some ReplaceSnapshot) disk = HasOneFile disk.journal
    × (disk.new ≡ kept_file texts.snapshot)
IsDueOn texts (Some SyncFolder) disk = HasOneFile disk.journal
    × IsFirstFile (kept_file texts.snapshot) disk.snapshot
IsDueOn texts (Some BeginJournal) disk = HasOneFile disk.journal
    × (disk.snapshot ≡ kept_file texts.snapshot ∷ [])
IsDueOn texts (Some SyncJournal) disk = (disk.snapshot ≡ kept_file texts.snapshot ∷ [])
    × IsFirstFile (unkept_file texts.first_line) disk.journal
IsDueOn texts (Some RemoveJournal) disk = ⊥
IsDueOn texts None disk = HasOneFile disk.journal

-- The new snapshot has the line; or if lines came since it was begun, the journal has it.
abbrev pub IsTakenOver : Bool → StateTexts → StateDisk → List ℕ → Type 0
IsTakenOver true texts disk line = HasWholeLine texts.snapshot line
IsTakenOver false texts disk line = HasWholeLine texts.snapshot line
    ⊎ IsJournalled disk.journal line

-- what has the line, when this step is due
abbrev pub IsKeptOn : StateTexts → Option FileStep → Bool → StateDisk → List ℕ → Type 0
IsKeptOn texts (Some WriteSnapshot) whole disk line = KeepsLine disk line
IsKeptOn texts (Some BeginJournal) whole disk line = HasWholeLine texts.snapshot line
IsKeptOn texts (Some SyncJournal) whole disk line = HasWholeLine texts.snapshot line
IsKeptOn texts (Some _) whole disk line = KeepsLine disk line × IsTakenOver whole texts disk line
IsKeptOn texts None whole disk line = KeepsLine disk line

-- The fold that writes these texts has reached its next step with these files, and the line is not
-- lost.
pub record FoldKeeps (texts : StateTexts) (fold : Folding) (disk : StateDisk)
    (line : List ℕ) : Type 0 where
  pub due : IsDueOn texts fold.next disk
  pub kept : IsKeptOn texts fold.next fold.is_whole disk line

-- The journal is empty, and the snapshot is the new one.
pub record IsFolded (texts : StateTexts) (disk : StateDisk) : Type 0 where
  pub snapshot : disk.snapshot ≡ kept_file texts.snapshot ∷ []
  pub journal : disk.journal ≡ kept_file texts.first_line ∷ []

-- ---- a fold that failed

-- what is to be done if the step failed: while the journal is being emptied, what the disk has
-- of it is not known
abbrev pub fold_end : Option FileStep → FoldEnd
fold_end (Some BeginJournal) = ReplicaEnds
fold_end (Some SyncJournal) = ReplicaEnds
fold_end _ = JournalContinues
