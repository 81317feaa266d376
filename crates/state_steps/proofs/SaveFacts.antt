-- Lemmas on how far a save has come.
use Rattle.std.proofs.Common.{ℕ, inl, inr, List, [], ◌∷◌, Some, sym, ap, subst, refl}
use Rattle.state_steps.specs.Files.{KeepsLine, StateDisk, kept_file, synced_file}
use Rattle.state_steps.specs.Saves.{IsSaveDueOn, IsSaveKeptOn, following_save, save_step}
use Rattle.state_steps.specs.Steps.{FailsDue, IsDoneOrNot, StateTexts, WritesLine, after_due, after_step}
use Rattle.state_steps.specs.declared.saving.SaveStage.{SaveStage}
use Rattle.state_steps.specs.declared.saving.SaveStage.TheVariants.{Due, Done, Failed}
use Rattle.state_steps.specs.declared.file_step.FileStep.{FileStep}
use Rattle.state_steps.specs.declared.file_step.FileStep.TheVariants.{WriteSnapshot, SyncSnapshot, ReplaceSnapshot}
use Rattle.state_steps.specs.declared.file_step.FileStep.TheVariants.{SyncFolder, RemoveJournal, BeginJournal, SyncJournal}
use Rattle.state_steps.proofs.StepFacts.{keeping_both, settled_first, snapshot_keeps}

pub saved_now : (texts : StateTexts) (stage : SaveStage) (disk : StateDisk) (line : List ℕ)
    → IsSaveDueOn texts stage disk → IsSaveKeptOn texts stage disk line → KeepsLine disk line
saved_now texts (Due WriteSnapshot) disk line due kept = kept
saved_now texts (Due SyncSnapshot) disk line due kept = kept.0
saved_now texts (Due ReplaceSnapshot) disk line due kept = kept.0
saved_now texts (Due SyncFolder) disk line due kept = kept.0
saved_now texts (Due RemoveJournal) disk line due kept = snapshot_keeps disk.snapshot disk.journal texts.snapshot line due kept
saved_now texts (Due BeginJournal) disk line due kept = absurd due
saved_now texts (Due SyncJournal) disk line due kept = absurd due
saved_now texts Done disk line due kept = snapshot_keeps disk.snapshot disk.journal texts.snapshot line due.0 kept
saved_now texts Failed disk line due kept = kept

-- ---- a step is done

pub save_due : (texts : StateTexts) (stage : SaveStage) (disk : StateDisk) → IsSaveDueOn texts stage disk
    → IsSaveDueOn texts (following_save stage) (after_due texts (save_step stage) disk)
save_due texts (Due WriteSnapshot) disk due = refl
save_due texts (Due SyncSnapshot) disk due = ap synced_file due
save_due texts (Due ReplaceSnapshot) disk due = due
save_due texts (Due SyncFolder) disk due = settled_first disk.snapshot (kept_file texts.snapshot) due
save_due texts (Due RemoveJournal) disk due = (due, refl)
save_due texts (Due BeginJournal) disk due = absurd due
save_due texts (Due SyncJournal) disk due = absurd due
save_due texts Done disk due = due
save_due texts Failed disk due = due

pub save_kept : (texts : StateTexts) (stage : SaveStage) (disk : StateDisk) (line : List ℕ)
    → IsSaveDueOn texts stage disk → IsSaveKeptOn texts stage disk line → WritesLine texts (save_step stage) line
    → IsSaveKeptOn texts (following_save stage) (after_due texts (save_step stage) disk) line
save_kept texts (Due WriteSnapshot) disk line due kept writes = (kept, writes)
save_kept texts (Due SyncSnapshot) disk line due kept writes = (kept.0, kept.1)
save_kept texts (Due ReplaceSnapshot) disk line due kept writes = (
  keeping_both disk.new disk.snapshot disk.journal line
      (snapshot_keeps (disk.new ∷ []) disk.journal texts.snapshot line (ap (λ file. file ∷ []) due) kept.1) kept.0,
  kept.1,
)
save_kept texts (Due SyncFolder) disk line due kept writes = kept.1
save_kept texts (Due RemoveJournal) disk line due kept writes = kept
save_kept texts (Due BeginJournal) disk line due kept writes = absurd due
save_kept texts (Due SyncJournal) disk line due kept writes = absurd due
save_kept texts Done disk line due kept writes = kept
save_kept texts Failed disk line due kept writes = kept

-- ---- a step that failed

done_or_not : (texts : StateTexts) (step : FileStep) (disk left : StateDisk) (line : List ℕ) → IsSaveDueOn texts (Due step) disk
    → IsSaveKeptOn texts (Due step) disk line → WritesLine texts (Some step) line → IsDoneOrNot texts step disk left
    → KeepsLine left line
done_or_not texts step disk left line due kept writes (inl is) =
    subst (λ d. KeepsLine d line) (sym is) (saved_now texts (Due step) disk line due kept)
done_or_not texts step disk left line due kept writes (inr is) = subst (λ d. KeepsLine d line) (sym is)
    (saved_now texts (following_save (Due step)) (after_step texts step disk) line
    (save_due texts (Due step) disk due) (save_kept texts (Due step) disk line due kept writes))

-- What a step that failed leaves keeps each line that was kept.
pub save_failed : (texts : StateTexts) (stage : SaveStage) (disk left : StateDisk) (line : List ℕ) → IsSaveDueOn texts stage disk
    → IsSaveKeptOn texts stage disk line → FailsDue texts (save_step stage) disk left → KeepsLine left line
save_failed texts (Due WriteSnapshot) disk left line due kept fails = subst (λ d. KeepsLine d line) (sym fails.1) kept
save_failed texts (Due SyncSnapshot) disk left line due kept fails = done_or_not texts SyncSnapshot disk left line due kept tt fails
save_failed texts (Due ReplaceSnapshot) disk left line due kept fails = done_or_not texts ReplaceSnapshot disk left line due kept tt fails
save_failed texts (Due SyncFolder) disk left line due kept fails = done_or_not texts SyncFolder disk left line due kept tt fails
save_failed texts (Due RemoveJournal) disk left line due kept fails = done_or_not texts RemoveJournal disk left line due kept tt fails
save_failed texts (Due BeginJournal) disk left line due kept fails = absurd due
save_failed texts (Due SyncJournal) disk left line due kept fails = absurd due
save_failed texts Done disk left line due kept fails =
    subst (λ d. KeepsLine d line) (sym fails) (saved_now texts Done disk line due kept)
save_failed texts Failed disk left line due kept fails = subst (λ d. KeepsLine d line) (sym fails) kept
