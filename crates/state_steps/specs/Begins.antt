-- The beginning of a replica that keeps running: what the files have is read, and if there was a
-- journal or no state it is saved; then an empty journal is begun.
use Rattle.std.specs.Prelude.{◌≡◌, ℕ, Bool, true, false, List, [], ◌∷◌, Option, None, Some}
use Rattle.state_steps.specs.Files.{IsFirstFile, KeepsLine, SnapshotsKeep, StateDisk, kept_file}
use Rattle.state_steps.specs.Files.{unkept_file}
use Rattle.state_steps.specs.Saves.{IsSaveDueOn, IsSaveKeptOn}
use Rattle.state_steps.specs.Steps.{StateTexts}
use Rattle.state_steps.specs.declared.beginning.Beginning.{Beginning}
use Rattle.state_steps.specs.declared.beginning.FoundFiles.{FoundFiles}
use Rattle.state_steps.specs.declared.beginning.BeginStep.{BeginStep}
use Rattle.state_steps.specs.declared.beginning.BeginStep as step
use Rattle.state_steps.specs.declared.beginning.BeginStage.{BeginStage}
use Rattle.state_steps.specs.declared.beginning.BeginStage.TheVariants.{LoadAndSave, Load, Change}
use Rattle.state_steps.specs.declared.beginning.BeginStage.TheVariants.{Done, Failed}
use Rattle.state_steps.specs.declared.folding.FoldEnd.{FoldEnd}
use Rattle.state_steps.specs.declared.folding.FoldEnd.TheVariants.{JournalContinues, ReplicaEnds}
use Rattle.state_steps.specs.declared.saving.SaveStage.TheVariants.{Due}
use Rattle.state_steps.specs.declared.file_step.FileStep.{FileStep}
use Rattle.state_steps.specs.declared.file_step.FileStep.TheVariants.{WriteSnapshot, SyncSnapshot}
use Rattle.state_steps.specs.declared.file_step.FileStep.TheVariants.{ReplaceSnapshot, SyncFolder}
use Rattle.state_steps.specs.declared.file_step.FileStep.TheVariants.{RemoveJournal, BeginJournal}
use Rattle.state_steps.specs.declared.file_step.FileStep.TheVariants.{SyncJournal}

-- ---- what was found

-- Neither a state nor a journal was found, and the caller does not allow that.
pub record IsWithoutState (found : FoundFiles) (may_be_new : Bool) : Type 0 where
  pub state : found.has_state ≡ false
  pub journal : found.has_journal ≡ false
  pub new : may_be_new ≡ false

-- What was found is right: if no journal was found, none is there now.
abbrev pub IsFoundOn : FoundFiles → StateDisk → Type 0
IsFoundOn found disk = found.has_journal ≡ false → IsFirstFile (kept_file []) disk.journal

-- What was found is saved if there was a journal, or no state.
abbrev pub first_stage : FoundFiles → BeginStage
first_stage found = stage_of found.has_state found.has_journal
  where
    stage_of : Bool → Bool → BeginStage
    stage_of state true = LoadAndSave
    stage_of true false = Load
    stage_of false false = LoadAndSave

-- ---- the order of the steps

-- the step that is due, if one is
abbrev pub begin_step : BeginStage → Option BeginStep
begin_step LoadAndSave = Some step.TheVariants.Load
begin_step Load = Some step.TheVariants.Load
begin_step (Change change) = Some (step.TheVariants.Change change)
begin_step Done = None
begin_step Failed = None

-- the step that is due, if it changes files
abbrev pub begin_change : BeginStage → Option FileStep
begin_change (Change change) = Some change
begin_change _ = None

-- the stage after this one, when the step that is due is done
abbrev pub following_begin : BeginStage → BeginStage
following_begin LoadAndSave = Change WriteSnapshot
following_begin Load = Change BeginJournal
following_begin (Change WriteSnapshot) = Change SyncSnapshot
following_begin (Change SyncSnapshot) = Change ReplaceSnapshot
following_begin (Change ReplaceSnapshot) = Change SyncFolder
following_begin (Change SyncFolder) = Change RemoveJournal
following_begin (Change RemoveJournal) = Change BeginJournal
following_begin (Change BeginJournal) = Change SyncJournal
following_begin (Change SyncJournal) = Done
following_begin Done = Done
following_begin Failed = Failed

-- how many steps it takes until the journal is begun
abbrev pub begin_steps_left : BeginStage → ℕ
begin_steps_left LoadAndSave = 8
begin_steps_left Load = 3
begin_steps_left (Change WriteSnapshot) = 7
begin_steps_left (Change SyncSnapshot) = 6
begin_steps_left (Change ReplaceSnapshot) = 5
begin_steps_left (Change SyncFolder) = 4
begin_steps_left (Change RemoveJournal) = 3
begin_steps_left (Change BeginJournal) = 2
begin_steps_left (Change SyncJournal) = 1
begin_steps_left Done = 0
begin_steps_left Failed = 0

-- ---- how far the beginning has come

-- the files at this stage
abbrev pub IsBeginDueOn : StateTexts → BeginStage → StateDisk → Type 0
IsBeginDueOn texts (Change BeginJournal) disk = Unit {0}
IsBeginDueOn texts (Change SyncJournal) disk =
    IsFirstFile (unkept_file texts.first_line) disk.journal
IsBeginDueOn texts (Change change) disk = IsSaveDueOn texts (Due change) disk
IsBeginDueOn texts Done disk = disk.journal ≡ kept_file texts.first_line ∷ []
IsBeginDueOn texts _ disk = Unit {0}

-- what has the line at this stage: when the journal is begun, the snapshot alone keeps it
abbrev pub IsBeginKeptOn : StateTexts → BeginStage → StateDisk → List ℕ → Type 0
IsBeginKeptOn texts LoadAndSave disk line = KeepsLine disk line
IsBeginKeptOn texts Load disk line = SnapshotsKeep disk.snapshot line
IsBeginKeptOn texts (Change BeginJournal) disk line = SnapshotsKeep disk.snapshot line
IsBeginKeptOn texts (Change SyncJournal) disk line = SnapshotsKeep disk.snapshot line
IsBeginKeptOn texts (Change change) disk line = IsSaveKeptOn texts (Due change) disk line
IsBeginKeptOn texts Done disk line = SnapshotsKeep disk.snapshot line
IsBeginKeptOn texts Failed disk line = KeepsLine disk line

-- The beginning that writes these texts has reached its next step with these files, and the line is
-- not lost.
pub record BeginKeeps (texts : StateTexts) (begin : Beginning) (disk : StateDisk)
    (line : List ℕ) : Type 0 where
  pub due : IsBeginDueOn texts begin.stage disk
  pub kept : IsBeginKeptOn texts begin.stage disk line

-- The journal is begun: it has only its first line, and is on the disk under its name.
pub record HasBegun (texts : StateTexts) (begin : Beginning) (disk : StateDisk) : Type 0 where
  pub done : begin.stage ≡ Done
  pub journal : disk.journal ≡ kept_file texts.first_line ∷ []

-- ---- a beginning that failed

-- what is to be done if the step failed: before the journal is removed, it is as it was found
abbrev pub begin_end : BeginStage → FoldEnd
begin_end (Change WriteSnapshot) = JournalContinues
begin_end (Change SyncSnapshot) = JournalContinues
begin_end (Change ReplaceSnapshot) = JournalContinues
begin_end (Change SyncFolder) = JournalContinues
begin_end _ = ReplicaEnds
