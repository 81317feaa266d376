-- Lines are appended to a journal: they are written at its end, and put on the disk; and then it is
-- looked whether the names still lead to the files.
use Rattle.std.specs.Prelude.{◌≡◌, ℕ, ◌⊎◌, ◌++◌, List, [], ◌∷◌, take, Option, None, Some}
use Rattle.state_steps.specs.Files.{FileText, KeepsLine, StateDisk, appending, kept_file}
use Rattle.state_steps.specs.Files.{synced_file, text_now, with_first}
use Rattle.state_steps.specs.declared.appending.Appending.{Appending}
use Rattle.state_steps.specs.declared.appending.AppendStep.{AppendStep}
use Rattle.state_steps.specs.declared.appending.AppendStep.TheVariants.{WriteLines, SyncLines}
use Rattle.state_steps.specs.declared.appending.AppendStep.TheVariants.{SeeNames}
use Rattle.state_steps.specs.declared.appending.AppendStage.{AppendStage}
use Rattle.state_steps.specs.declared.appending.AppendStage.TheVariants.{OnDisk, Due, Failed}

-- ---- the order of the steps

-- the step that is due, if one is
abbrev pub append_step : AppendStage → Option AppendStep
append_step OnDisk = None
append_step (Due step) = Some step
append_step Failed = None

-- the stage when there are lines to append: after an error none may be
abbrev pub with_lines : AppendStage → AppendStage
with_lines OnDisk = Due WriteLines
with_lines (Due step) = Due WriteLines
with_lines Failed = Failed

-- the stage after this one, when the step that is due is done
abbrev pub following_append : AppendStage → AppendStage
following_append OnDisk = OnDisk
following_append (Due WriteLines) = Due SyncLines
following_append (Due SyncLines) = Due SeeNames
following_append (Due SeeNames) = OnDisk
following_append Failed = Failed

-- ---- what the steps do

-- These bytes are written at the end of the journal, or it is put on the disk. A look changes
-- nothing.
abbrev pub after_append : List ℕ → AppendStage → StateDisk → StateDisk
after_append bytes (Due WriteLines) disk = appending bytes disk
after_append bytes (Due SyncLines) disk = record disk {
  journal = with_first synced_file disk.journal;
}
after_append bytes _ disk = disk

-- all that was written to the journal, after this text
abbrev pub written_after : List ℕ → AppendStage → List ℕ → List ℕ
written_after bytes (Due WriteLines) written = written ++ bytes
written_after bytes _ written = written

-- What a step that failed may leave: any beginning of the bytes is written; or the journal is as
-- before, or on the disk.
abbrev pub FailsAppend : List ℕ → AppendStage → StateDisk → StateDisk → Type 0
FailsAppend bytes (Due WriteLines) disk left = (size : ℕ)
    × (left ≡ appending (take size bytes) disk)
FailsAppend bytes (Due SyncLines) disk left = (left ≡ disk)
    ⊎ (left ≡ after_append bytes (Due SyncLines) disk)
FailsAppend bytes _ disk left = left ≡ disk

-- ---- how far the appending has come

-- the journal's one file, with all that was written to it
abbrev pub IsWrittenTo : List ℕ → List FileText → Type 0
IsWrittenTo written [] = ⊥
IsWrittenTo written (file ∷ []) = text_now file ≡ written
IsWrittenTo written _ = ⊥

-- the journal at this stage, of which this text was written
abbrev pub IsAppendedOn : List ℕ → AppendStage → StateDisk → Type 0
IsAppendedOn written OnDisk disk = disk.journal ≡ kept_file written ∷ []
IsAppendedOn written (Due SeeNames) disk = disk.journal ≡ kept_file written ∷ []
IsAppendedOn written (Due step) disk = IsWrittenTo written disk.journal
IsAppendedOn written Failed disk = Unit {0}

-- The journal, of which this text was written, has reached its next step with these files, and the
-- line is not lost.
pub record AppendKeeps (written : List ℕ) (journal : Appending) (disk : StateDisk)
    (line : List ℕ) : Type 0 where
  pub due : IsAppendedOn written journal.stage disk
  pub kept : KeepsLine disk line
