-- Lemmas on how far the shortening of a journal has come.
use Rattle.std.proofs.Common.{◌≡◌, ℕ, ◌⊎◌, inl, inr, List, [], ◌∷◌, Option, None, Some, sym, ap, subst, refl, arith}
use Rattle.state_steps.specs.Files.{AreKeeping, FileText, HasOneFile, HasWholeLine, KeepsLine}
use Rattle.state_steps.specs.Files.{SnapshotsKeep, StateDisk, kept_file, settled_name, synced_file}
use Rattle.state_steps.specs.Shortenings.{FailsShorten, IsShortenDue, after_shorten, after_shorten_step, following_shorten}
use Rattle.state_steps.specs.Shortenings.{shorten_steps_left}
use Rattle.state_steps.specs.declared.shortening.ShortenStep.{ShortenStep}
use Rattle.state_steps.specs.declared.shortening.ShortenStep.TheVariants.{WriteJournal, SyncNew, ReplaceJournal, SyncFolder}
use Rattle.state_steps.proofs.LineFacts.{found_settled, kept_has}
use Rattle.state_steps.proofs.StepFacts.{settled_first}

-- ---- what the new journal keeps

-- a journal whose first file has each line that the snapshot may lack
first_keeps : (snapshots : List FileText) (new : FileText) (journals : List FileText) (text line : List ℕ)
    → new ≡ kept_file text → SnapshotsKeep snapshots line ⊎ HasWholeLine text line → AreKeeping snapshots journals line
    → AreKeeping snapshots (new ∷ journals) line
first_keeps snapshots new journals text line is taken keeping snapshot journal at_snapshot (inr found) =
    keeping snapshot journal at_snapshot found
first_keeps snapshots new journals text line is (inl keeps) keeping snapshot journal at_snapshot (inl left) =
    inl (keeps snapshot at_snapshot)
first_keeps snapshots new journals text line is (inr has) keeping snapshot journal at_snapshot (inl left) =
    inr (kept_has (new ∷ []) text journal line (ap (λ f. f ∷ []) is) (inl left) has)

journal_settled : (snapshots journals : List FileText) (line : List ℕ) → AreKeeping snapshots journals line
    → AreKeeping snapshots (settled_name journals) line
journal_settled snapshots journals line keeping snapshot journal at_snapshot at_journal =
    keeping snapshot journal at_snapshot (found_settled journals journal at_journal)

-- ---- a step is done

pub shorten_due : (text : List ℕ) (next : Option ShortenStep) (disk : StateDisk) → IsShortenDue text next disk
    → IsShortenDue text (following_shorten next) (after_shorten text next disk)
shorten_due text (Some WriteJournal) disk due = (due, refl)
shorten_due text (Some SyncNew) disk due = (due.0, ap synced_file due.1)
shorten_due text (Some ReplaceJournal) disk due = due.1
shorten_due text (Some SyncFolder) disk due = settled_first disk.journal (kept_file text) due
shorten_due text None disk due = due

pub shorten_kept : (text : List ℕ) (next : Option ShortenStep) (disk : StateDisk) (line : List ℕ)
    → IsShortenDue text next disk → KeepsLine disk line → SnapshotsKeep disk.snapshot line ⊎ HasWholeLine text line
    → KeepsLine (after_shorten text next disk) line
shorten_kept text (Some WriteJournal) disk line due kept taken = kept
shorten_kept text (Some SyncNew) disk line due kept taken = kept
shorten_kept text (Some ReplaceJournal) disk line due kept taken =
    first_keeps disk.snapshot disk.new disk.journal text line due.1 taken kept
shorten_kept text (Some SyncFolder) disk line due kept taken = journal_settled disk.snapshot disk.journal line kept
shorten_kept text None disk line due kept taken = kept

-- no step changes the snapshot
pub shorten_taken : (text : List ℕ) (next : Option ShortenStep) (disk : StateDisk) (line : List ℕ)
    → SnapshotsKeep disk.snapshot line ⊎ HasWholeLine text line
    → SnapshotsKeep (after_shorten text next disk).snapshot line ⊎ HasWholeLine text line
shorten_taken text (Some WriteJournal) disk line taken = taken
shorten_taken text (Some SyncNew) disk line taken = taken
shorten_taken text (Some ReplaceJournal) disk line taken = taken
shorten_taken text (Some SyncFolder) disk line taken = taken
shorten_taken text None disk line taken = taken

-- ---- a step that failed

done_or_not : (text : List ℕ) (step : ShortenStep) (disk left : StateDisk) (line : List ℕ)
    → IsShortenDue text (Some step) disk → KeepsLine disk line → SnapshotsKeep disk.snapshot line ⊎ HasWholeLine text line
    → (left ≡ disk) ⊎ (left ≡ after_shorten_step text step disk) → KeepsLine left line
done_or_not text step disk left line due kept taken (inl is) = subst (λ d. KeepsLine d line) (sym is) kept
done_or_not text step disk left line due kept taken (inr is) =
    subst (λ d. KeepsLine d line) (sym is) (shorten_kept text (Some step) disk line due kept taken)

-- What a step that failed leaves keeps each line that was kept.
pub shorten_failed : (text : List ℕ) (next : Option ShortenStep) (disk left : StateDisk) (line : List ℕ)
    → IsShortenDue text next disk → KeepsLine disk line → SnapshotsKeep disk.snapshot line ⊎ HasWholeLine text line
    → FailsShorten text next disk left → KeepsLine left line
shorten_failed text (Some WriteJournal) disk left line due kept taken fails = subst (λ d. KeepsLine d line) (sym fails.1) kept
shorten_failed text (Some SyncNew) disk left line due kept taken fails = done_or_not text SyncNew disk left line due kept taken fails
shorten_failed text (Some ReplaceJournal) disk left line due kept taken fails =
    done_or_not text ReplaceJournal disk left line due kept taken fails
shorten_failed text (Some SyncFolder) disk left line due kept taken fails =
    done_or_not text SyncFolder disk left line due kept taken fails
shorten_failed text None disk left line due kept taken fails = subst (λ d. KeepsLine d line) (sym fails) kept

-- ---- the beginning

pub first_due : (text : List ℕ) (next : Option ShortenStep) (disk : StateDisk) → shorten_steps_left next ≡ 4
    → HasOneFile disk.journal → IsShortenDue text next disk
first_due text (Some WriteJournal) disk first one = one
first_due text (Some SyncNew) disk first one = absurd (omega (arith, first))
first_due text (Some ReplaceJournal) disk first one = absurd (omega (arith, first))
first_due text (Some SyncFolder) disk first one = absurd (omega (arith, first))
first_due text None disk first one = absurd (omega (arith, first))
