-- Lemmas on how far the beginning of a replica has come.
use Rattle.std.proofs.Common.{◌≡◌, ℕ, inl, inr, false, List, [], ◌∷◌, take, Some, sym, subst, refl}
use Rattle.state_steps.specs.Begins.{IsBeginDueOn, IsBeginKeptOn, IsFoundOn, begin_change, following_begin}
use Rattle.state_steps.specs.Files.{KeepsLine, SnapshotsKeep, StateDisk}
use Rattle.state_steps.specs.Files.{synced_file, unkept_file, with_first}
use Rattle.state_steps.specs.Steps.{FailsDue, IsDoneOrNot, StateTexts, WritesLine, after_due, after_step}
use Rattle.state_steps.specs.declared.beginning.BeginStage.{BeginStage}
use Rattle.state_steps.specs.declared.beginning.BeginStage.TheVariants.{LoadAndSave, Load, Change, Done, Failed}
use Rattle.state_steps.specs.declared.beginning.FoundFiles.{FoundFiles}
use Rattle.state_steps.specs.declared.saving.SaveStage.TheVariants.{Due}
use Rattle.state_steps.specs.declared.file_step.FileStep.{FileStep}
use Rattle.state_steps.specs.declared.file_step.FileStep.TheVariants.{WriteSnapshot, SyncSnapshot, ReplaceSnapshot}
use Rattle.state_steps.specs.declared.file_step.FileStep.TheVariants.{SyncFolder, RemoveJournal, BeginJournal, SyncJournal}
use Rattle.state_steps.proofs.SaveFacts.{save_due, save_failed, save_kept, saved_now}
use Rattle.state_steps.proofs.StepFacts.{alone_keeps, settled_synced, snapshots_keep, without_journal}

pub begun_now : (texts : StateTexts) (stage : BeginStage) (disk : StateDisk) (line : List ℕ)
    → IsBeginDueOn texts stage disk → IsBeginKeptOn texts stage disk line → KeepsLine disk line
begun_now texts LoadAndSave disk line due kept = kept
begun_now texts Load disk line due kept = alone_keeps disk.snapshot disk.journal line kept
begun_now texts (Change WriteSnapshot) disk line due kept = saved_now texts (Due WriteSnapshot) disk line due kept
begun_now texts (Change SyncSnapshot) disk line due kept = saved_now texts (Due SyncSnapshot) disk line due kept
begun_now texts (Change ReplaceSnapshot) disk line due kept = saved_now texts (Due ReplaceSnapshot) disk line due kept
begun_now texts (Change SyncFolder) disk line due kept = saved_now texts (Due SyncFolder) disk line due kept
begun_now texts (Change RemoveJournal) disk line due kept = saved_now texts (Due RemoveJournal) disk line due kept
begun_now texts (Change BeginJournal) disk line due kept = alone_keeps disk.snapshot disk.journal line kept
begun_now texts (Change SyncJournal) disk line due kept = alone_keeps disk.snapshot disk.journal line kept
begun_now texts Done disk line due kept = alone_keeps disk.snapshot disk.journal line kept
begun_now texts Failed disk line due kept = kept

-- ---- it begins

-- If no journal was found, the snapshot alone keeps each line.
pub loaded_alone : (found : FoundFiles) (disk : StateDisk) (line : List ℕ) → found.has_journal ≡ false → IsFoundOn found disk
    → KeepsLine disk line → SnapshotsKeep disk.snapshot line
loaded_alone found disk line none found_on keeps = without_journal disk.snapshot disk.journal line (found_on none) keeps

-- ---- a step is done

pub begin_due : (texts : StateTexts) (stage : BeginStage) (disk : StateDisk) → IsBeginDueOn texts stage disk
    → IsBeginDueOn texts (following_begin stage) (after_due texts (begin_change stage) disk)
begin_due texts LoadAndSave disk due = tt
begin_due texts Load disk due = tt
begin_due texts (Change WriteSnapshot) disk due = save_due texts (Due WriteSnapshot) disk due
begin_due texts (Change SyncSnapshot) disk due = save_due texts (Due SyncSnapshot) disk due
begin_due texts (Change ReplaceSnapshot) disk due = save_due texts (Due ReplaceSnapshot) disk due
begin_due texts (Change SyncFolder) disk due = save_due texts (Due SyncFolder) disk due
begin_due texts (Change RemoveJournal) disk due = tt
begin_due texts (Change BeginJournal) disk due = refl
begin_due texts (Change SyncJournal) disk due = settled_synced disk.journal texts.first_line due
begin_due texts Done disk due = due
begin_due texts Failed disk due = due

pub begin_kept : (texts : StateTexts) (stage : BeginStage) (disk : StateDisk) (line : List ℕ)
    → IsBeginDueOn texts stage disk → IsBeginKeptOn texts stage disk line → WritesLine texts (begin_change stage) line
    → IsBeginKeptOn texts (following_begin stage) (after_due texts (begin_change stage) disk) line
begin_kept texts LoadAndSave disk line due kept writes = kept
begin_kept texts Load disk line due kept writes = kept
begin_kept texts (Change WriteSnapshot) disk line due kept writes = save_kept texts (Due WriteSnapshot) disk line due kept writes
begin_kept texts (Change SyncSnapshot) disk line due kept writes = save_kept texts (Due SyncSnapshot) disk line due kept tt
begin_kept texts (Change ReplaceSnapshot) disk line due kept writes = save_kept texts (Due ReplaceSnapshot) disk line due kept tt
begin_kept texts (Change SyncFolder) disk line due kept writes = save_kept texts (Due SyncFolder) disk line due kept tt
begin_kept texts (Change RemoveJournal) disk line due kept writes = snapshots_keep disk.snapshot texts.snapshot line due kept
begin_kept texts (Change BeginJournal) disk line due kept writes = kept
begin_kept texts (Change SyncJournal) disk line due kept writes = kept
begin_kept texts Done disk line due kept writes = kept
begin_kept texts Failed disk line due kept writes = kept

-- ---- a step that failed

done_or_not : (texts : StateTexts) (step : FileStep) (disk left : StateDisk) (line : List ℕ) → IsBeginDueOn texts (Change step) disk
    → IsBeginKeptOn texts (Change step) disk line → WritesLine texts (Some step) line → IsDoneOrNot texts step disk left
    → KeepsLine left line
done_or_not texts step disk left line due kept writes (inl is) =
    subst (λ d. KeepsLine d line) (sym is) (begun_now texts (Change step) disk line due kept)
done_or_not texts step disk left line due kept writes (inr is) = subst (λ d. KeepsLine d line) (sym is)
    (begun_now texts (following_begin (Change step)) (after_step texts step disk) line
    (begin_due texts (Change step) disk due) (begin_kept texts (Change step) disk line due kept writes))

-- What a step that failed leaves keeps each line that was kept.
pub begin_failed : (texts : StateTexts) (stage : BeginStage) (disk left : StateDisk) (line : List ℕ)
    → IsBeginDueOn texts stage disk → IsBeginKeptOn texts stage disk line → FailsDue texts (begin_change stage) disk left
    → KeepsLine left line
begin_failed texts LoadAndSave disk left line due kept fails = subst (λ d. KeepsLine d line) (sym fails) kept
begin_failed texts Load disk left line due kept fails =
    subst (λ d. KeepsLine d line) (sym fails) (alone_keeps disk.snapshot disk.journal line kept)
begin_failed texts (Change WriteSnapshot) disk left line due kept fails = save_failed texts (Due WriteSnapshot) disk left line due kept fails
begin_failed texts (Change SyncSnapshot) disk left line due kept fails = save_failed texts (Due SyncSnapshot) disk left line due kept fails
begin_failed texts (Change ReplaceSnapshot) disk left line due kept fails =
    save_failed texts (Due ReplaceSnapshot) disk left line due kept fails
begin_failed texts (Change SyncFolder) disk left line due kept fails = save_failed texts (Due SyncFolder) disk left line due kept fails
begin_failed texts (Change RemoveJournal) disk left line due kept fails = save_failed texts (Due RemoveJournal) disk left line due kept fails
begin_failed texts (Change BeginJournal) disk left line due kept (inl fails) = done_or_not texts BeginJournal disk left line due kept tt fails
begin_failed texts (Change BeginJournal) disk left line due kept (inr fails) = subst (λ d. KeepsLine d line) (sym fails.1)
    (alone_keeps disk.snapshot (unkept_file (take fails.0 texts.first_line) ∷ disk.journal) line kept)
begin_failed texts (Change SyncJournal) disk left line due kept (inl fails) = done_or_not texts SyncJournal disk left line due kept tt fails
begin_failed texts (Change SyncJournal) disk left line due kept (inr fails) = subst (λ d. KeepsLine d line) (sym fails)
    (alone_keeps disk.snapshot (with_first synced_file disk.journal) line kept)
begin_failed texts Done disk left line due kept fails =
    subst (λ d. KeepsLine d line) (sym fails) (alone_keeps disk.snapshot disk.journal line kept)
begin_failed texts Failed disk left line due kept fails = subst (λ d. KeepsLine d line) (sym fails) kept
