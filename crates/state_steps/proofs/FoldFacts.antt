-- Lemmas on how far a fold has come.
use Rattle.std.proofs.Common.{◌≡◌, ◌≢◌, ℕ, ◌⊎◌, inl, inr, Bool, true, false, List, [], ◌∷◌, take, Option, None, Some, sym, ap, subst, refl, arith}
use Rattle.state_steps.specs.Files.{FileText, HasOneFile, HasWholeLine, IsJournalled, KeepsLine, SnapshotsKeep, StateDisk}
use Rattle.state_steps.specs.Files.{appended, appending, kept_file, longer_file, settled_name, synced_file, unkept_file, with_first}
use Rattle.state_steps.specs.Folds.{IsDueOn, IsKeptOn, IsTakenOver, following_step, steps_left}
use Rattle.state_steps.specs.Steps.{FailsDue, IsDoneOrNot, StateTexts, WritesLine, after_due}
use Rattle.state_steps.specs.declared.file_step.FileStep.{FileStep}
use Rattle.state_steps.specs.declared.file_step.FileStep.TheVariants.{WriteSnapshot, SyncSnapshot, ReplaceSnapshot}
use Rattle.state_steps.specs.declared.file_step.FileStep.TheVariants.{SyncFolder, RemoveJournal, BeginJournal, SyncJournal}
use Rattle.state_steps.proofs.LineFacts.{journal_has, journalled_appended, keeping_appended, keeping_appending}
use Rattle.state_steps.proofs.StepFacts.{keeping_both, keeping_settled, one_settled, replaced_keeps, settled_first, snapshot_keeps, snapshots_keep}

-- ---- at each step no line is lost

pub keeps_now : (texts : StateTexts) (next : Option FileStep) (whole : Bool) (disk : StateDisk) (line : List ℕ)
    → IsDueOn texts next disk → IsKeptOn texts next whole disk line → KeepsLine disk line
keeps_now texts (Some WriteSnapshot) whole disk line due kept = kept
keeps_now texts (Some SyncSnapshot) whole disk line due kept = kept.0
keeps_now texts (Some ReplaceSnapshot) whole disk line due kept = kept.0
keeps_now texts (Some SyncFolder) whole disk line due kept = kept.0
keeps_now texts (Some BeginJournal) whole disk line due kept =
    snapshot_keeps disk.snapshot disk.journal texts.snapshot line due.1 kept
keeps_now texts (Some SyncJournal) whole disk line due kept =
    snapshot_keeps disk.snapshot disk.journal texts.snapshot line due.0 kept
keeps_now texts (Some RemoveJournal) whole disk line due kept = absurd due
keeps_now texts None whole disk line due kept = kept

-- ---- a step is done

pub done_due : (texts : StateTexts) (next : Option FileStep) (whole : Bool) (disk : StateDisk) → IsDueOn texts next disk
    → IsDueOn texts (following_step whole next) (after_due texts next disk)
done_due texts (Some WriteSnapshot) whole disk due = (due, refl)
done_due texts (Some SyncSnapshot) whole disk due = (due.0, ap synced_file due.1)
done_due texts (Some ReplaceSnapshot) whole disk due = (due.0, due.1)
done_due texts (Some SyncFolder) true disk due = (due.0, settled_first disk.snapshot (kept_file texts.snapshot) due.1)
done_due texts (Some SyncFolder) false disk due = due.0
done_due texts (Some BeginJournal) whole disk due = (due.1, refl)
done_due texts (Some SyncJournal) whole disk due = one_settled disk.journal _ due.1
done_due texts (Some RemoveJournal) whole disk due = absurd due
done_due texts None whole disk due = due

-- a new snapshot that has the line takes it over
taken_written : (whole : Bool) (texts : StateTexts) (disk : StateDisk) (line : List ℕ) → HasWholeLine texts.snapshot line
    → IsTakenOver whole texts disk line
taken_written true texts disk line has = has
taken_written false texts disk line has = inl has

pub done_kept : (texts : StateTexts) (next : Option FileStep) (whole : Bool) (disk : StateDisk) (line : List ℕ)
    → IsDueOn texts next disk → IsKeptOn texts next whole disk line → WritesLine texts next line
    → IsKeptOn texts (following_step whole next) whole (after_due texts next disk) line
done_kept texts (Some WriteSnapshot) whole disk line due kept writes =
    (kept, taken_written whole texts (after_due texts (Some WriteSnapshot) disk) line writes)
done_kept texts (Some SyncSnapshot) true disk line due kept writes = (kept.0, kept.1)
done_kept texts (Some SyncSnapshot) false disk line due kept writes = (kept.0, kept.1)
done_kept texts (Some ReplaceSnapshot) true disk line due kept writes = (
  keeping_both disk.new disk.snapshot disk.journal line (replaced_keeps texts disk line due.0 due.1 (inl kept.1)) kept.0,
  kept.1,
)
done_kept texts (Some ReplaceSnapshot) false disk line due kept writes = (
  keeping_both disk.new disk.snapshot disk.journal line (replaced_keeps texts disk line due.0 due.1 kept.1) kept.0,
  kept.1,
)
done_kept texts (Some SyncFolder) true disk line due kept writes = kept.1
done_kept texts (Some SyncFolder) false disk line due kept writes = keeping_settled disk.snapshot disk.journal line kept.0
done_kept texts (Some BeginJournal) whole disk line due kept writes = kept
done_kept texts (Some SyncJournal) whole disk line due kept writes =
    snapshot_keeps disk.snapshot (settled_name (with_first synced_file disk.journal)) texts.snapshot line due.0 kept
done_kept texts (Some RemoveJournal) whole disk line due kept writes = absurd due
done_kept texts None whole disk line due kept writes = kept

-- ---- the folder is put on the disk

-- the new snapshot has the line; or this text has it, with each line of the journal that the snapshot lacks
written_or_text : (whole : Bool) (texts : StateTexts) (disk : StateDisk) (text line : List ℕ) → IsTakenOver whole texts disk line
    → (IsJournalled disk.journal line → HasWholeLine texts.snapshot line ⊎ HasWholeLine text line)
    → HasWholeLine texts.snapshot line ⊎ HasWholeLine text line
written_or_text true texts disk text line taken others = inl taken
written_or_text false texts disk text line (inl has) others = inl has
written_or_text false texts disk text line (inr has) others = others has

settled_or_text : (snapshots : List FileText) (snapshot text line : List ℕ) → snapshots ≡ kept_file snapshot ∷ []
    → HasWholeLine snapshot line ⊎ HasWholeLine text line → SnapshotsKeep snapshots line ⊎ HasWholeLine text line
settled_or_text snapshots snapshot text line is (inl has) = inl (snapshots_keep snapshots snapshot line is has)
settled_or_text snapshots snapshot text line is (inr has) = inr has

-- The journal may be shortened then: the new snapshot or the text of a new journal has each line.
pub folder_synced : (texts : StateTexts) (next : Option FileStep) (whole : Bool) (disk : StateDisk) (text line : List ℕ)
    → steps_left next ≡ 3 → IsDueOn texts next disk → IsKeptOn texts next whole disk line
    → (IsJournalled disk.journal line → HasWholeLine texts.snapshot line ⊎ HasWholeLine text line)
    → HasOneFile (after_due texts next disk).journal × KeepsLine (after_due texts next disk) line
    × (SnapshotsKeep (after_due texts next disk).snapshot line ⊎ HasWholeLine text line)
folder_synced texts (Some WriteSnapshot) whole disk text line is due kept others = absurd (omega (arith, is))
folder_synced texts (Some SyncSnapshot) whole disk text line is due kept others = absurd (omega (arith, is))
folder_synced texts (Some ReplaceSnapshot) whole disk text line is due kept others = absurd (omega (arith, is))
folder_synced texts (Some SyncFolder) whole disk text line is due kept others = (
  due.0,
  keeping_settled disk.snapshot disk.journal line kept.0,
  settled_or_text (settled_name disk.snapshot) texts.snapshot text line
      (settled_first disk.snapshot (kept_file texts.snapshot) due.1) (written_or_text whole texts disk text line kept.1 others),
)
folder_synced texts (Some BeginJournal) whole disk text line is due kept others = absurd (omega (arith, is))
folder_synced texts (Some SyncJournal) whole disk text line is due kept others = absurd (omega (arith, is))
folder_synced texts (Some RemoveJournal) whole disk text line is due kept others = absurd (omega (arith, is))
folder_synced texts None whole disk text line is due kept others = absurd (omega (arith, is))

-- ---- lines are appended

pub one_journal : (texts : StateTexts) (next : Option FileStep) (disk : StateDisk) → steps_left next ≢ 1
    → IsDueOn texts next disk → HasOneFile disk.journal
one_journal texts (Some WriteSnapshot) disk not_last due = due
one_journal texts (Some SyncSnapshot) disk not_last due = due.0
one_journal texts (Some ReplaceSnapshot) disk not_last due = due.0
one_journal texts (Some SyncFolder) disk not_last due = due.0
one_journal texts (Some BeginJournal) disk not_last due = due.0
one_journal texts (Some SyncJournal) disk not_last due = absurd (not_last refl)
one_journal texts (Some RemoveJournal) disk not_last due = absurd due
one_journal texts None disk not_last due = due

pub appending_keeps : (texts : StateTexts) (next : Option FileStep) (whole : Bool) (disk : StateDisk) (bytes line : List ℕ)
    → steps_left next ≢ 1 → IsDueOn texts next disk → IsKeptOn texts next whole disk line
    → KeepsLine (appending bytes disk) line
appending_keeps texts next whole disk bytes line not_last due kept =
    keeping_appending disk.snapshot disk.journal bytes line (one_journal texts next disk not_last due)
    (keeps_now texts next whole disk line due kept)

one_appended : (journals : List FileText) (bytes : List ℕ) → HasOneFile journals
    → HasOneFile (with_first (λ file. synced_file (longer_file bytes file)) journals)
one_appended [] bytes one = absurd one
one_appended (file ∷ []) bytes one = tt
one_appended (file ∷ (other ∷ files)) bytes one = absurd one

pub appended_due : (texts : StateTexts) (next : Option FileStep) (disk : StateDisk) (bytes : List ℕ)
    → steps_left next ≢ 1 → IsDueOn texts next disk → IsDueOn texts next (appended bytes disk)
appended_due texts (Some WriteSnapshot) disk bytes not_last due = one_appended disk.journal bytes due
appended_due texts (Some SyncSnapshot) disk bytes not_last due = (one_appended disk.journal bytes due.0, due.1)
appended_due texts (Some ReplaceSnapshot) disk bytes not_last due = (one_appended disk.journal bytes due.0, due.1)
appended_due texts (Some SyncFolder) disk bytes not_last due = (one_appended disk.journal bytes due.0, due.1)
appended_due texts (Some BeginJournal) disk bytes not_last due = (one_appended disk.journal bytes due.0, due.1)
appended_due texts (Some SyncJournal) disk bytes not_last due = absurd (not_last refl)
appended_due texts (Some RemoveJournal) disk bytes not_last due = absurd due
appended_due texts None disk bytes not_last due = one_appended disk.journal bytes due

taken_later : (whole : Bool) (texts : StateTexts) (disk : StateDisk) (bytes line : List ℕ) → IsTakenOver whole texts disk line
    → IsTakenOver false texts (appended bytes disk) line
taken_later true texts disk bytes line taken = inl taken
taken_later false texts disk bytes line (inl has) = inl has
taken_later false texts disk bytes line (inr has) = inr (journalled_appended disk.journal bytes line has)

pub appended_kept : (texts : StateTexts) (next : Option FileStep) (whole : Bool) (disk : StateDisk) (bytes line : List ℕ)
    → steps_left next ≢ 1 → IsDueOn texts next disk → IsKeptOn texts next whole disk line
    → IsKeptOn texts next false (appended bytes disk) line
appended_kept texts (Some WriteSnapshot) whole disk bytes line not_last due kept =
    keeping_appended disk.snapshot disk.journal bytes line due kept
appended_kept texts (Some SyncSnapshot) whole disk bytes line not_last due kept =
    (keeping_appended disk.snapshot disk.journal bytes line due.0 kept.0, taken_later whole texts disk bytes line kept.1)
appended_kept texts (Some ReplaceSnapshot) whole disk bytes line not_last due kept =
    (keeping_appended disk.snapshot disk.journal bytes line due.0 kept.0, taken_later whole texts disk bytes line kept.1)
appended_kept texts (Some SyncFolder) whole disk bytes line not_last due kept =
    (keeping_appended disk.snapshot disk.journal bytes line due.0 kept.0, taken_later whole texts disk bytes line kept.1)
appended_kept texts (Some BeginJournal) whole disk bytes line not_last due kept = kept
appended_kept texts (Some SyncJournal) whole disk bytes line not_last due kept = absurd (not_last refl)
appended_kept texts (Some RemoveJournal) whole disk bytes line not_last due kept = absurd due
appended_kept texts None whole disk bytes line not_last due kept =
    keeping_appended disk.snapshot disk.journal bytes line due kept

-- a fold that is over is as it was
pub appended_over : (texts : StateTexts) (next : Option FileStep) (whole : Bool) (disk : StateDisk) (bytes line : List ℕ)
    → next ≡ None → IsDueOn texts next disk → IsKeptOn texts next whole disk line → IsKeptOn texts next whole (appended bytes disk) line
appended_over texts next whole disk bytes line is due kept =
    subst (λ step. IsKeptOn texts step whole (appended bytes disk) line) (sym is)
    (keeping_appended disk.snapshot disk.journal bytes line (subst (λ step. IsDueOn texts step disk) is due)
    (subst (λ step. IsKeptOn texts step whole disk line) is kept))

-- ---- the snapshot is written, and lines came meanwhile

pub written_due : (texts : StateTexts) (next : Option FileStep) (whole : Bool) (disk : StateDisk) (came : List ℕ) → next ≡ Some WriteSnapshot
    → IsDueOn texts next disk → IsDueOn texts (following_step whole next) (appended came (after_due texts next disk))
written_due texts next whole disk came is due =
    subst (λ step. IsDueOn texts (following_step whole step) (appended came (after_due texts step disk))) (sym is)
    (one_appended disk.journal came (subst (λ step. IsDueOn texts step disk) is due), refl)

taken_now : (now : Bool) (texts : StateTexts) (disk : StateDisk) (line : List ℕ) → HasWholeLine texts.snapshot line
    → IsTakenOver now texts disk line
taken_now true texts disk line has = has
taken_now false texts disk line has = inl has

pub written_kept : (texts : StateTexts) (next : Option FileStep) (whole now : Bool) (disk : StateDisk) (came line : List ℕ)
    → next ≡ Some WriteSnapshot → IsDueOn texts next disk → IsKeptOn texts next whole disk line → WritesLine texts next line
    → IsKeptOn texts (following_step whole next) now (appended came (after_due texts next disk)) line
written_kept texts next whole now disk came line is due kept writes =
    let one = subst (λ step. IsDueOn texts step disk) is due in
    let held = subst (λ step. IsKeptOn texts step whole disk line) is kept in
    let has = subst (λ step. WritesLine texts step line) is writes in
    subst (λ step. IsKeptOn texts (following_step whole step) now (appended came (after_due texts step disk)) line) (sym is) (
      keeping_appended disk.snapshot disk.journal came line one held,
      taken_now now texts (appended came (after_due texts (Some WriteSnapshot) disk)) line has,
    )

pub written_new : (texts : StateTexts) (next : Option FileStep) (whole : Bool) (disk : StateDisk) (came line : List ℕ)
    → next ≡ Some WriteSnapshot → IsDueOn texts next disk → IsJournalled (appended came (after_due texts next disk)).journal line
    → IsKeptOn texts (following_step whole next) false (appended came (after_due texts next disk)) line
written_new texts next whole disk came line is due journalled =
    let one = one_appended disk.journal came (subst (λ step. IsDueOn texts step disk) is due) in
    let has = subst (λ step. IsJournalled (appended came (after_due texts step disk)).journal line) is journalled in
    let journals = (appended came disk).journal in
    subst (λ step. IsKeptOn texts (following_step whole step) false (appended came (after_due texts step disk)) line) (sym is) (
      λ snapshot. λ journal. λ at_snapshot. λ at_journal. inr (journal_has journals journal line one at_journal has),
      inr has,
    )

-- a fold whose snapshot is not begun is as it was
pub appended_fresh : (texts : StateTexts) (next : Option FileStep) (whole : Bool) (disk : StateDisk) (bytes line : List ℕ)
    → next ≡ Some WriteSnapshot → IsDueOn texts next disk → IsKeptOn texts next whole disk line
    → IsKeptOn texts next whole (appended bytes disk) line
appended_fresh texts next whole disk bytes line is due kept =
    subst (λ step. IsKeptOn texts step whole (appended bytes disk) line) (sym is)
    (keeping_appended disk.snapshot disk.journal bytes line (subst (λ step. IsDueOn texts step disk) is due)
    (subst (λ step. IsKeptOn texts step whole disk line) is kept))

-- ---- a step that failed

done_or_not : (texts : StateTexts) (step : FileStep) (whole : Bool) (disk left : StateDisk) (line : List ℕ)
    → IsDueOn texts (Some step) disk → IsKeptOn texts (Some step) whole disk line → WritesLine texts (Some step) line
    → IsDoneOrNot texts step disk left → KeepsLine left line
done_or_not texts step whole disk left line due kept writes (inl is) =
    subst (λ d. KeepsLine d line) (sym is) (keeps_now texts (Some step) whole disk line due kept)
done_or_not texts step whole disk left line due kept writes (inr is) = subst (λ d. KeepsLine d line) (sym is)
    (keeps_now texts (following_step whole (Some step)) whole (after_due texts (Some step) disk) line
    (done_due texts (Some step) whole disk due) (done_kept texts (Some step) whole disk line due kept writes))

-- What a step that failed leaves keeps each line that was kept.
pub failed_keeps : (texts : StateTexts) (next : Option FileStep) (whole : Bool) (disk left : StateDisk) (line : List ℕ)
    → IsDueOn texts next disk → IsKeptOn texts next whole disk line → FailsDue texts next disk left → KeepsLine left line
failed_keeps texts (Some WriteSnapshot) whole disk left line due kept fails = subst (λ d. KeepsLine d line) (sym fails.1) kept
failed_keeps texts (Some SyncSnapshot) whole disk left line due kept fails =
    done_or_not texts SyncSnapshot whole disk left line due kept tt fails
failed_keeps texts (Some ReplaceSnapshot) whole disk left line due kept fails =
    done_or_not texts ReplaceSnapshot whole disk left line due kept tt fails
failed_keeps texts (Some SyncFolder) whole disk left line due kept fails =
    done_or_not texts SyncFolder whole disk left line due kept tt fails
failed_keeps texts (Some RemoveJournal) whole disk left line due kept fails = absurd due
failed_keeps texts (Some BeginJournal) whole disk left line due kept (inl fails) =
    done_or_not texts BeginJournal whole disk left line due kept tt fails
failed_keeps texts (Some BeginJournal) whole disk left line due kept (inr fails) = subst (λ d. KeepsLine d line) (sym fails.1)
    (snapshot_keeps disk.snapshot (unkept_file (take fails.0 texts.first_line) ∷ disk.journal) texts.snapshot line due.1 kept)
failed_keeps texts (Some SyncJournal) whole disk left line due kept (inl fails) =
    done_or_not texts SyncJournal whole disk left line due kept tt fails
failed_keeps texts (Some SyncJournal) whole disk left line due kept (inr fails) = subst (λ d. KeepsLine d line) (sym fails)
    (snapshot_keeps disk.snapshot (with_first synced_file disk.journal) texts.snapshot line due.0 kept)
failed_keeps texts None whole disk left line due kept fails = subst (λ d. KeepsLine d line) (sym fails) kept
