-- Lemmas on the order of the audit file and the state's files.
use Rattle.std.proofs.Common.{◌≡◌, ℕ, inl, inr, List, [], ◌++◌, take, length, sym, ap, subst, refl, ◌∙◌, append-nil}
use Rattle.std.proofs.Common.{le_refl, take_all}
use Rattle.state_steps.specs.Audits.{AuditTexts, Change, ChangesState, FailsKeep, HasNoTrace, IsAudited, IsAuditOn, IsChangeOn}
use Rattle.state_steps.specs.Audits.{IsEarlierOrAbsent, IsPartlyAudited, after_keep, following_keep, texts_after, written_audit}
use Rattle.state_steps.specs.Files.{FileText, HasWholeLine, StateDisk, kept_file}
use Rattle.state_steps.specs.declared.appending.AppendStep.TheVariants.{WriteLines, SyncLines, SeeNames}
use Rattle.state_steps.specs.declared.keeping.KeepStage.{KeepStage}
use Rattle.state_steps.specs.declared.keeping.KeepStage.TheVariants.{Kept, Due, Failed}
use Rattle.state_steps.specs.declared.keeping.KeepStep.TheVariants.{Audit, State}
use Rattle.state_steps.proofs.LineFacts.{left_has, line_stays}

-- ---- which change has its line

-- What the disk has of the audit file has the line, so the change is audited whatever the state's files are.
pub kept_audited : (audit : FileText) (disk : StateDisk) (change : Change) → HasWholeLine audit.kept change.report
    → IsAudited audit disk change
kept_audited audit disk change has text snapshot journal left at_snapshot at_journal held =
    left_has audit text change.report left.0 left.2 has

pub absent_audited : (audit : FileText) (disk : StateDisk) (change : Change) → HasNoTrace disk change.last → IsAudited audit disk change
absent_audited audit disk change absent text snapshot journal left at_snapshot at_journal held =
    absurd (absent snapshot journal at_snapshot at_journal held)

pub earlier_audited : (texts : AuditTexts) (audit : FileText) (more : List ℕ) (disk : StateDisk) (change : Change)
    → audit.kept ≡ texts.earlier ++ more → IsEarlierOrAbsent texts disk change → IsAudited audit disk change
earlier_audited texts audit more disk change is (inl has) = kept_audited audit disk change
    (subst (λ t. HasWholeLine t change.report) (sym is) (line_stays texts.earlier more change.report has))
earlier_audited texts audit more disk change is (inr new) = absent_audited audit disk change new.0

earlier_written : (texts : AuditTexts) (disk : StateDisk) (change : Change) → IsEarlierOrAbsent texts disk change
    → HasWholeLine (texts.earlier ++ texts.turn) change.report
earlier_written texts disk change (inl has) = line_stays texts.earlier texts.turn change.report has
earlier_written texts disk change (inr new) = new.1

-- ---- a step is done

pub keep_due : (texts : AuditTexts) (stage : KeepStage) (audit : FileText) → IsAuditOn texts stage audit
    → IsAuditOn (texts_after stage texts) (following_keep stage) (after_keep texts stage audit)
keep_due texts Kept audit due = due
keep_due texts (Due (Audit WriteLines)) audit due = refl
keep_due texts (Due (Audit SyncLines)) audit due = refl
keep_due texts (Due (Audit SeeNames)) audit due = due
keep_due texts (Due State) audit due = due
keep_due texts Failed audit due = due

pub keep_place : (texts : AuditTexts) (stage : KeepStage) (disk after : StateDisk) (change : Change)
    → IsChangeOn texts stage disk change → ChangesState stage disk after
    → IsChangeOn (texts_after stage texts) (following_keep stage) after change
keep_place texts Kept disk after change place is = place
keep_place texts (Due (Audit WriteLines)) disk after change place is = subst (λ d. IsEarlierOrAbsent texts d change) (sym is) place
keep_place texts (Due (Audit SyncLines)) disk after change place is = subst (λ d. IsEarlierOrAbsent texts d change) (sym is) place
keep_place texts (Due (Audit SeeNames)) disk after change place is = earlier_written texts disk change place
keep_place texts (Due State) disk after change place is = place
keep_place texts Failed disk after change place is = place

same_disk : (audit : FileText) (disk after : StateDisk) (change : Change) → IsAudited audit disk change → after ≡ disk
    → IsAudited audit after change
same_disk audit disk after change audited is = subst (λ d. IsAudited audit d change) (sym is) audited

pub keep_audited : (texts : AuditTexts) (stage : KeepStage) (audit : FileText) (disk after : StateDisk) (change : Change)
    → IsAuditOn texts stage audit → IsChangeOn texts stage disk change → IsAudited audit disk change
    → ChangesState stage disk after → IsAudited (after_keep texts stage audit) after change
keep_audited texts Kept audit disk after change due place audited is = same_disk audit disk after change audited is
keep_audited texts (Due (Audit WriteLines)) audit disk after change due place audited is =
    same_disk (written_audit texts) disk after change
    (earlier_audited texts (written_audit texts) [] disk change (sym (append-nil texts.earlier)) place) is
keep_audited texts (Due (Audit SyncLines)) audit disk after change due place audited is =
    same_disk (kept_file (texts.earlier ++ texts.turn)) disk after change
    (earlier_audited texts (kept_file (texts.earlier ++ texts.turn)) texts.turn disk change refl place) is
keep_audited texts (Due (Audit SeeNames)) audit disk after change due place audited is = same_disk audit disk after change audited is
keep_audited texts (Due State) audit disk after change due place audited is =
    kept_audited audit after change (subst (λ f. HasWholeLine f.kept change.report) (sym due) place)
keep_audited texts Failed audit disk after change due place audited is = same_disk audit disk after change audited is

-- ---- a step that failed

-- A file all of which is on the disk is one that got nothing.
pub nothing_written : (texts : AuditTexts) (audit : FileText) → audit ≡ kept_file texts.earlier → IsPartlyAudited texts audit
nothing_written texts audit is = inr (0, is)

pub all_written : (texts : AuditTexts) (audit : FileText) → audit ≡ written_audit texts → IsPartlyAudited texts audit
all_written texts audit is = inr (
  length texts.turn,
  is ∙ ap (λ t. record { kept = texts.earlier; since = t }) (sym (take_all (length texts.turn) texts.turn (le_refl (length texts.turn)))),
)

all_earlier : (texts : AuditTexts) (audit : FileText) → audit ≡ kept_file (texts.earlier ++ texts.turn)
    → IsPartlyAudited (record { earlier = texts.earlier ++ texts.turn; turn = [] }) audit
all_earlier texts audit is = inr (0, is)

pub failed_due : (texts : AuditTexts) (stage : KeepStage) (audit left : FileText) → IsAuditOn texts stage audit
    → FailsKeep texts stage audit left → IsPartlyAudited (texts_after stage texts) left
failed_due texts Kept audit left due fails = nothing_written texts left (fails ∙ due)
failed_due texts (Due (Audit WriteLines)) audit left due fails = inr fails
failed_due texts (Due (Audit SyncLines)) audit left due (inl fails) = all_written texts left (fails ∙ due)
failed_due texts (Due (Audit SyncLines)) audit left due (inr fails) = inl fails
failed_due texts (Due (Audit SeeNames)) audit left due fails = inl (fails ∙ due)
failed_due texts (Due State) audit left due fails = all_earlier texts left (fails ∙ due)
failed_due texts Failed audit left due fails = subst (IsPartlyAudited texts) (sym fails) due

same_files : (audit left : FileText) (disk after : StateDisk) (change : Change) → IsAudited audit disk change → left ≡ audit
    → after ≡ disk → IsAudited left after change
same_files audit left disk after change audited is same =
    subst (λ f. IsAudited f after change) (sym is) (same_disk audit disk after change audited same)

partly_audited : (texts : AuditTexts) (left : FileText) (size : ℕ) (disk after : StateDisk) (change : Change)
    → left ≡ record { kept = texts.earlier; since = take size texts.turn } → IsEarlierOrAbsent texts disk change → after ≡ disk
    → IsAudited left after change
partly_audited texts left size disk after change is place same = same_disk left disk after change
    (earlier_audited texts left [] disk change (ap (λ (f : FileText). f.kept) is ∙ sym (append-nil texts.earlier)) place) same

pub failed_audited : (texts : AuditTexts) (stage : KeepStage) (audit left : FileText) (disk after : StateDisk) (change : Change)
    → IsAuditOn texts stage audit → IsChangeOn texts stage disk change → IsAudited audit disk change
    → FailsKeep texts stage audit left → ChangesState stage disk after → IsAudited left after change
failed_audited texts Kept audit left disk after change due place audited fails is = same_files audit left disk after change audited fails is
failed_audited texts (Due (Audit WriteLines)) audit left disk after change due place audited fails is =
    partly_audited texts left fails.0 disk after change fails.1 place is
failed_audited texts (Due (Audit SyncLines)) audit left disk after change due place audited (inl fails) is =
    same_files audit left disk after change audited fails is
failed_audited texts (Due (Audit SyncLines)) audit left disk after change due place audited (inr fails) is = same_disk left disk after change
    (earlier_audited texts left texts.turn disk change (ap (λ (f : FileText). f.kept) fails) place) is
failed_audited texts (Due (Audit SeeNames)) audit left disk after change due place audited fails is =
    same_files audit left disk after change audited fails is
failed_audited texts (Due State) audit left disk after change due place audited fails is =
    kept_audited left after change (subst (λ f. HasWholeLine f.kept change.report) (sym (fails ∙ due)) place)
failed_audited texts Failed audit left disk after change due place audited fails is = same_files audit left disk after change audited fails is
