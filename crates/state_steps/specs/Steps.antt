-- What the steps make of the files of a state, and what a step that fails may leave.
use Rattle.std.specs.Prelude.{◌≡◌, ℕ, ◌⊎◌, Bool, true, false, List, [], ◌∷◌, take, Option, None}
use Rattle.std.specs.Prelude.{Some}
use Rattle.state_steps.specs.Files.{FileText, HasWholeLine, StateDisk, kept_file, settled_name}
use Rattle.state_steps.specs.Files.{synced_file, unkept_file, with_first}
use Rattle.state_steps.specs.declared.file_step.FileStep.{FileStep}
use Rattle.state_steps.specs.declared.file_step.FileStep.TheVariants.{WriteSnapshot, SyncSnapshot}
use Rattle.state_steps.specs.declared.file_step.FileStep.TheVariants.{ReplaceSnapshot, SyncFolder}
use Rattle.state_steps.specs.declared.file_step.FileStep.TheVariants.{RemoveJournal, BeginJournal}
use Rattle.state_steps.specs.declared.file_step.FileStep.TheVariants.{SyncJournal}

-- what is written: the new snapshot, and the first line of a journal
pub record StateTexts : Type 0 where
  pub snapshot : List ℕ
  pub first_line : List ℕ

-- ---- a step that is done

-- what the step makes of the files
abbrev pub after_step : StateTexts → FileStep → StateDisk → StateDisk
after_step texts WriteSnapshot disk = record disk { new = unkept_file texts.snapshot }
after_step texts SyncSnapshot disk = record disk { new = synced_file disk.new }
after_step texts ReplaceSnapshot disk = record disk { snapshot = disk.new ∷ disk.snapshot }
after_step texts SyncFolder disk = record disk { snapshot = settled_name disk.snapshot }
after_step texts RemoveJournal disk = record disk { journal = kept_file [] ∷ disk.journal }
after_step texts BeginJournal disk = record disk {
  journal = unkept_file texts.first_line ∷ disk.journal;
}
after_step texts SyncJournal disk = record disk {
  journal = settled_name (with_first synced_file disk.journal);
}

abbrev pub after_due : StateTexts → Option FileStep → StateDisk → StateDisk
after_due texts None disk = disk
after_due texts (Some step) disk = after_step texts step disk

-- If the step writes the snapshot, the snapshot has the line.
abbrev pub WritesLine : StateTexts → Option FileStep → List ℕ → Type 0
WritesLine texts (Some WriteSnapshot) line = HasWholeLine texts.snapshot line
WritesLine texts _ line = Unit {0}

-- ---- a step that failed

-- The step is not done, or it is.
abbrev pub IsDoneOrNot : StateTexts → FileStep → StateDisk → StateDisk → Type 0
IsDoneOrNot texts step disk left = (left ≡ disk) ⊎ (left ≡ after_step texts step disk)

-- The name of the journal has a new file with any beginning of the first line: with nothing of it
-- also if the old file is removed and the new one is not made.
abbrev pub IsPartlyBegun : StateTexts → StateDisk → StateDisk → Type 0
IsPartlyBegun texts disk left = (size : ℕ)
    × (left ≡ record disk { journal = unkept_file (take size texts.first_line) ∷ disk.journal })

-- The new journal is on the disk, and the folder is not.
abbrev pub IsPartlySynced : StateDisk → StateDisk → Type 0
IsPartlySynced disk left = left ≡ record disk { journal = with_first synced_file disk.journal }

-- What a step that failed may leave of the files: its work done, not done, or a part of it. Under
-- the name of the new snapshot there may be anything.
abbrev pub FailsTo : StateTexts → FileStep → StateDisk → StateDisk → Type 0
FailsTo texts WriteSnapshot disk left = (file : FileText) × (left ≡ record disk { new = file })
FailsTo texts BeginJournal disk left = IsDoneOrNot texts BeginJournal disk left
    ⊎ IsPartlyBegun texts disk left
FailsTo texts SyncJournal disk left = IsDoneOrNot texts SyncJournal disk left
    ⊎ IsPartlySynced disk left
FailsTo texts step disk left = IsDoneOrNot texts step disk left

abbrev pub FailsDue : StateTexts → Option FileStep → StateDisk → StateDisk → Type 0
FailsDue texts None disk left = left ≡ disk
FailsDue texts (Some step) disk left = FailsTo texts step disk left

-- ---- what is left under the name that nobody reads

-- If this step failed, a new snapshot may be left that never gets its name.
abbrev pub leaves_new : FileStep → Bool
leaves_new WriteSnapshot = true
leaves_new SyncSnapshot = true
leaves_new ReplaceSnapshot = true
leaves_new _ = false

-- The new snapshot, or the new journal, is removed.
abbrev pub without_new : StateDisk → StateDisk
without_new disk = record disk { new = kept_file [] }
