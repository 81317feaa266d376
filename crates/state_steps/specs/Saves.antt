-- A save: what is held is written as a new snapshot, which takes the place of the old one, and then
-- the journal is removed.
use Rattle.std.specs.Prelude.{◌≡◌, ℕ, List, [], ◌∷◌, Option, None, Some}
use Rattle.state_steps.specs.Files.{HasWholeLine, IsFirstFile, KeepsLine, StateDisk, kept_file}
use Rattle.state_steps.specs.Files.{unkept_file}
use Rattle.state_steps.specs.Steps.{StateTexts}
use Rattle.state_steps.specs.declared.saving.Saving.{Saving}
use Rattle.state_steps.specs.declared.saving.SaveStage.{SaveStage}
use Rattle.state_steps.specs.declared.saving.SaveStage.TheVariants.{Due, Done, Failed}
use Rattle.state_steps.specs.declared.file_step.FileStep.{FileStep}
use Rattle.state_steps.specs.declared.file_step.FileStep.TheVariants.{WriteSnapshot, SyncSnapshot}
use Rattle.state_steps.specs.declared.file_step.FileStep.TheVariants.{ReplaceSnapshot, SyncFolder}
use Rattle.state_steps.specs.declared.file_step.FileStep.TheVariants.{RemoveJournal}

-- ---- the order of the steps

-- the step that is due, if one is
abbrev pub save_step : SaveStage → Option FileStep
save_step (Due step) = Some step
save_step Done = None
save_step Failed = None

-- the stage after this one, when the step that is due is done
abbrev pub following_save : SaveStage → SaveStage
following_save (Due WriteSnapshot) = Due SyncSnapshot
following_save (Due SyncSnapshot) = Due ReplaceSnapshot
following_save (Due ReplaceSnapshot) = Due SyncFolder
following_save (Due SyncFolder) = Due RemoveJournal
following_save (Due RemoveJournal) = Done
following_save (Due _) = Failed
following_save Done = Done
following_save Failed = Failed

-- how many steps it takes to the end of a save
abbrev pub save_steps_left : SaveStage → ℕ
save_steps_left (Due WriteSnapshot) = 5
save_steps_left (Due SyncSnapshot) = 4
save_steps_left (Due ReplaceSnapshot) = 3
save_steps_left (Due SyncFolder) = 2
save_steps_left (Due RemoveJournal) = 1
save_steps_left _ = 0

-- ---- how far a save has come

-- the files at this stage (no save begins a journal)
abbrev pub IsSaveDueOn : StateTexts → SaveStage → StateDisk → Type 0
IsSaveDueOn texts (Due WriteSnapshot) disk = Unit {0}
IsSaveDueOn texts (Due SyncSnapshot) disk = disk.new ≡ unkept_file texts.snapshot
IsSaveDueOn texts (Due ReplaceSnapshot) disk = disk.new ≡ kept_file texts.snapshot
IsSaveDueOn texts (Due SyncFolder) disk = IsFirstFile (kept_file texts.snapshot) disk.snapshot
IsSaveDueOn texts (Due RemoveJournal) disk = disk.snapshot ≡ kept_file texts.snapshot ∷ []
IsSaveDueOn texts (Due _) disk = ⊥
IsSaveDueOn texts Done disk = (disk.snapshot ≡ kept_file texts.snapshot ∷ [])
    × IsFirstFile (kept_file []) disk.journal
IsSaveDueOn texts Failed disk = Unit {0}

-- what has the line at this stage: from the first step on the new snapshot has it
abbrev pub IsSaveKeptOn : StateTexts → SaveStage → StateDisk → List ℕ → Type 0
IsSaveKeptOn texts (Due WriteSnapshot) disk line = KeepsLine disk line
IsSaveKeptOn texts (Due RemoveJournal) disk line = HasWholeLine texts.snapshot line
IsSaveKeptOn texts (Due _) disk line = KeepsLine disk line × HasWholeLine texts.snapshot line
IsSaveKeptOn texts Done disk line = HasWholeLine texts.snapshot line
IsSaveKeptOn texts Failed disk line = KeepsLine disk line

-- The save that writes this snapshot has reached its next step with these files, and the line is
-- not lost.
pub record SaveKeeps (texts : StateTexts) (save : Saving) (disk : StateDisk)
    (line : List ℕ) : Type 0 where
  pub due : IsSaveDueOn texts save.stage disk
  pub kept : IsSaveKeptOn texts save.stage disk line

-- The save is done: the snapshot is the new one, on the disk under its name, and nobody finds a
-- journal.
pub record IsSaved (texts : StateTexts) (save : Saving) (disk : StateDisk) : Type 0 where
  pub done : save.stage ≡ Done
  pub snapshot : disk.snapshot ≡ kept_file texts.snapshot ∷ []
  pub journal : IsFirstFile (kept_file []) disk.journal
