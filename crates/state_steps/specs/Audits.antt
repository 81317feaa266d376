-- A change is put on the disk: its line is appended to the audit file, and only after that the
-- files of the state get the change.
use Rattle.std.specs.Prelude.{◌≡◌, ℕ, ◌⊎◌, ◌++◌, Bool, true, false, List, [], take, Option}
use Rattle.std.specs.Prelude.{None, Some}
use Rattle.state_steps.specs.Files.{FileText, HasWholeLine, IsFoundAt, IsLeftOf, StateDisk}
use Rattle.state_steps.specs.Files.{kept_file}
use Rattle.state_steps.specs.declared.appending.AppendStep.TheVariants.{WriteLines, SyncLines}
use Rattle.state_steps.specs.declared.appending.AppendStep.TheVariants.{SeeNames}
use Rattle.state_steps.specs.declared.keeping.Keeping.{Keeping}
use Rattle.state_steps.specs.declared.keeping.KeepStep.{KeepStep}
use Rattle.state_steps.specs.declared.keeping.KeepStep.TheVariants.{Audit, State}
use Rattle.state_steps.specs.declared.keeping.KeepStage.{KeepStage}
use Rattle.state_steps.specs.declared.keeping.KeepStage.TheVariants.{Kept, Due, Failed}

-- ---- the order of the steps

-- the step that is due, if one is
abbrev pub keep_step : KeepStage → Option KeepStep
keep_step Kept = None
keep_step (Due step) = Some step
keep_step Failed = None

-- the stage when a turn has lines for the audit file, or none: after an error none may be appended
abbrev pub with_changes : Bool → KeepStage → KeepStage
with_changes true Kept = Due (Audit WriteLines)
with_changes false Kept = Due State
with_changes has_lines (Due step) = Failed
with_changes has_lines Failed = Failed

-- the stage after this one, when the step that is due is done
abbrev pub following_keep : KeepStage → KeepStage
following_keep Kept = Kept
following_keep (Due (Audit WriteLines)) = Due (Audit SyncLines)
following_keep (Due (Audit SyncLines)) = Due (Audit SeeNames)
following_keep (Due (Audit SeeNames)) = Due State
following_keep (Due State) = Kept
following_keep Failed = Failed

-- ---- the audit file

-- a change: its line in the audit file, and the last of the lines that the state's files get for it
pub record Change : Type 0 where
  pub report : List ℕ
  pub last : List ℕ

-- what the audit file has of the turns before, and what it gets in this one
pub record AuditTexts : Type 0 where
  pub earlier : List ℕ
  pub turn : List ℕ

-- the lines of this turn, of which nothing is on the disk
abbrev pub written_audit : AuditTexts → FileText
written_audit texts = record { kept = texts.earlier; since = texts.turn }

-- The audit file has what it had, and any beginning of the lines of this turn; or all of them are
-- on the disk.
abbrev pub IsPartlyAudited : AuditTexts → FileText → Type 0
IsPartlyAudited texts audit = (audit ≡ kept_file (texts.earlier ++ texts.turn))
    ⊎ ((size : ℕ) × (audit ≡ record { kept = texts.earlier; since = take size texts.turn }))

-- the audit file at this stage
abbrev pub IsAuditOn : AuditTexts → KeepStage → FileText → Type 0
IsAuditOn texts Kept audit = audit ≡ kept_file texts.earlier
IsAuditOn texts (Due (Audit WriteLines)) audit = audit ≡ kept_file texts.earlier
IsAuditOn texts (Due (Audit SyncLines)) audit = audit ≡ written_audit texts
IsAuditOn texts (Due (Audit SeeNames)) audit = audit ≡ kept_file (texts.earlier ++ texts.turn)
IsAuditOn texts (Due State) audit = audit ≡ kept_file (texts.earlier ++ texts.turn)
IsAuditOn texts Failed audit = IsPartlyAudited texts audit

-- ---- what the steps do

-- what the step makes of the audit file
abbrev pub after_keep : AuditTexts → KeepStage → FileText → FileText
after_keep texts (Due (Audit WriteLines)) audit = written_audit texts
after_keep texts (Due (Audit SyncLines)) audit = kept_file (texts.earlier ++ texts.turn)
after_keep texts _ audit = audit

-- After the last step the turn is one of those before.
abbrev pub texts_after : KeepStage → AuditTexts → AuditTexts
texts_after (Due State) texts = record { earlier = texts.earlier ++ texts.turn; turn = [] }
texts_after _ texts = texts

-- The files of the state: the last step makes anything of them, and the others nothing.
abbrev pub ChangesState : KeepStage → StateDisk → StateDisk → Type 0
ChangesState (Due State) disk after = Unit {0}
ChangesState _ disk after = after ≡ disk

-- What a step that failed may leave of the audit file: any beginning of the lines; or the file as
-- before, or on the disk. Only the last step changes the files of the state.
abbrev pub FailsKeep : AuditTexts → KeepStage → FileText → FileText → Type 0
FailsKeep texts (Due (Audit WriteLines)) audit left = (size : ℕ)
    × (left ≡ record { kept = texts.earlier; since = take size texts.turn })
FailsKeep texts (Due (Audit SyncLines)) audit left = (left ≡ audit)
    ⊎ (left ≡ kept_file (texts.earlier ++ texts.turn))
FailsKeep texts _ audit left = left ≡ audit

-- ---- which file has which change

-- The state's files, of which a stop left these texts, have the line.
abbrev pub IsHeldIn : List ℕ → List ℕ → List ℕ → Type 0
IsHeldIn snapshot journal line = HasWholeLine snapshot line ⊎ HasWholeLine journal line

-- No stop leaves the line in the state's files.
abbrev pub HasNoTrace : StateDisk → List ℕ → Type 0
HasNoTrace disk line = (snapshot journal : List ℕ) → IsFoundAt disk.snapshot snapshot
    → IsFoundAt disk.journal journal → IsHeldIn snapshot journal line → ⊥

-- Whatever a stop leaves: if the state's files have the change, the audit file has its line.
abbrev pub IsAudited : FileText → StateDisk → Change → Type 0
IsAudited audit disk change = (text snapshot journal : List ℕ) → IsLeftOf audit text
    → IsFoundAt disk.snapshot snapshot → IsFoundAt disk.journal journal
    → IsHeldIn snapshot journal change.last → HasWholeLine text change.report

-- the change is one of an earlier turn; or the state's files have nothing of it yet, and this turn
-- has its line
abbrev pub IsEarlierOrAbsent : AuditTexts → StateDisk → Change → Type 0
IsEarlierOrAbsent texts disk change = HasWholeLine texts.earlier change.report
    ⊎ (HasNoTrace disk change.last × HasWholeLine (texts.earlier ++ texts.turn) change.report)

-- what has the change at this stage
abbrev pub IsChangeOn : AuditTexts → KeepStage → StateDisk → Change → Type 0
IsChangeOn texts Kept disk change = HasWholeLine texts.earlier change.report
IsChangeOn texts (Due (Audit step)) disk change = IsEarlierOrAbsent texts disk change
IsChangeOn texts (Due State) disk change =
    HasWholeLine (texts.earlier ++ texts.turn) change.report
IsChangeOn texts Failed disk change = Unit {0}

-- the audit file, and the files of the state
pub record AuditedFiles : Type 0 where
  pub audit : FileText
  pub state : StateDisk

-- The next step of the turn may be done with these files, and the change is not without its line.
pub record AuditKeeps (texts : AuditTexts) (keeping : Keeping) (files : AuditedFiles)
    (change : Change) : Type 0 where
  pub due : IsAuditOn texts keeping.stage files.audit
  pub place : IsChangeOn texts keeping.stage files.state change
  pub audited : IsAudited files.audit files.state change
