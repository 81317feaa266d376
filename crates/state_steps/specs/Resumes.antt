-- A replica continues with the journal that it found: the journal is put on the disk, the part of a
-- line at its end is cut off, and that is put on the disk too.
use Rattle.std.specs.Prelude.{◌≡◌, ℕ, ◌⊎◌, List, [], ◌∷◌, Option, None, Some}
use Rattle.byte_lines.specs.Lines.{lines_of}
use Rattle.state_steps.specs.Files.{FileText, IsFirstFile, KeepsLine, StateDisk, kept_file}
use Rattle.state_steps.specs.Files.{settled_name, synced_file, text_now, with_first}
use Rattle.state_steps.specs.declared.resuming.Resuming.{Resuming}
use Rattle.state_steps.specs.declared.resuming.ResumeStep.{ResumeStep}
use Rattle.state_steps.specs.declared.resuming.ResumeStep.TheVariants.{SyncFound, CutLine, SyncCut}
use Rattle.state_steps.specs.declared.resuming.ResumeStage.{ResumeStage}
use Rattle.state_steps.specs.declared.resuming.ResumeStage.TheVariants.{Due, Done, Failed}

-- ---- the order of the steps

-- the step that is due, if one is
abbrev pub resume_step : ResumeStage → Option ResumeStep
resume_step (Due step) = Some step
resume_step Done = None
resume_step Failed = None

-- the stage after this one, when the step that is due is done
abbrev pub following_resume : ResumeStage → ResumeStage
following_resume (Due SyncFound) = Due CutLine
following_resume (Due CutLine) = Due SyncCut
following_resume (Due SyncCut) = Done
following_resume Done = Done
following_resume Failed = Failed

-- how many steps it takes until lines may be appended
abbrev pub resume_steps_left : ResumeStage → ℕ
resume_steps_left (Due SyncFound) = 3
resume_steps_left (Due CutLine) = 2
resume_steps_left (Due SyncCut) = 1
resume_steps_left Done = 0
resume_steps_left Failed = 0

-- ---- what the steps do

-- what the journal that was found has, and what is left of it
pub record ResumeTexts : Type 0 where
  pub found : List ℕ
  pub cut : List ℕ

-- All but the part of a line at its end is left.
pub record IsCutAtLine (texts : ResumeTexts) : Type 0 where
  pub whole : (lines_of texts.cut).whole ≡ (lines_of texts.found).whole
  pub rest : (lines_of texts.cut).rest ≡ []

-- The journal, and the folder, are put on the disk; or the journal has this text from now on, and
-- after a stop this or what it had.
abbrev pub after_resume : List ℕ → ResumeStage → StateDisk → StateDisk
after_resume cut (Due SyncFound) disk = record disk {
  journal = settled_name (with_first synced_file disk.journal);
}
after_resume cut (Due CutLine) disk = record disk { journal = kept_file cut ∷ disk.journal }
after_resume cut (Due SyncCut) disk = record disk {
  journal = settled_name (with_first synced_file disk.journal);
}
after_resume cut Done disk = disk
after_resume cut Failed disk = disk

-- What a step that failed may leave: its work done, or not; or the journal is on the disk, and the
-- folder is not.
abbrev pub FailsResume : List ℕ → ResumeStage → StateDisk → StateDisk → Type 0
FailsResume cut stage disk left = (left ≡ disk) ⊎ (left ≡ after_resume cut stage disk)
    ⊎ (left ≡ record disk { journal = with_first synced_file disk.journal })

-- ---- how far it has come

-- The journal that is read now has this text.
abbrev pub IsReadNow : List ℕ → List FileText → Type 0
IsReadNow text [] = ⊥
IsReadNow text (file ∷ files) = text_now file ≡ text

-- the journal at this stage
abbrev pub IsResumedOn : ResumeTexts → ResumeStage → StateDisk → Type 0
IsResumedOn texts (Due SyncFound) disk = IsReadNow texts.found disk.journal
IsResumedOn texts (Due CutLine) disk = disk.journal ≡ kept_file texts.found ∷ []
IsResumedOn texts (Due SyncCut) disk = IsFirstFile (kept_file texts.cut) disk.journal
IsResumedOn texts Done disk = disk.journal ≡ kept_file texts.cut ∷ []
IsResumedOn texts Failed disk = Unit {0}

-- The journal has reached its next step with these files, and the line is not lost.
pub record ResumeKeeps (texts : ResumeTexts) (resuming : Resuming) (disk : StateDisk)
    (line : List ℕ) : Type 0 where
  pub due : IsResumedOn texts resuming.stage disk
  pub kept : KeepsLine disk line
