-- Lemmas on a journal to which lines are appended.
use Rattle.std.proofs.Common.{◌≡◌, ℕ, ◌⊎◌, inl, inr, List, [], ◌∷◌, ◌++◌, take, sym, ap, subst, refl, ◌∙◌, append-nil, append_assoc}
use Rattle.state_steps.specs.Appends.{FailsAppend, IsAppendedOn, IsWrittenTo, after_append, following_append, written_after}
use Rattle.state_steps.specs.Files.{AreKeeping, FileText, HasOneFile, HasWholeLine, IsFirstFile, IsFoundAt, KeepsLine, StateDisk}
use Rattle.state_steps.specs.Files.{kept_file, longer_file, synced_file, text_now, with_first}
use Rattle.state_steps.specs.declared.appending.AppendStage.{AppendStage}
use Rattle.state_steps.specs.declared.appending.AppendStage.TheVariants.{OnDisk, Due, Failed}
use Rattle.state_steps.specs.declared.appending.AppendStep.TheVariants.{WriteLines, SyncLines, SeeNames}
use Rattle.state_steps.proofs.LineFacts.{all_left, keeping_appending, keeping_longer}

-- ---- the journal's one file

one_written : (written : List ℕ) (journals : List FileText) → IsWrittenTo written journals → HasOneFile journals
one_written written [] is = absurd is
one_written written (file ∷ []) is = tt
one_written written (file ∷ (other ∷ files)) is = absurd is

-- A journal all of which is on the disk has what was written.
kept_written : (written : List ℕ) (journals : List FileText) → journals ≡ kept_file written ∷ [] → IsWrittenTo written journals
kept_written written journals is = subst (IsWrittenTo written) (sym is) (append-nil written)

more_written : (written bytes : List ℕ) (journals : List FileText) → IsWrittenTo written journals
    → IsWrittenTo (written ++ bytes) (with_first (longer_file bytes) journals)
more_written written bytes [] is = absurd is
more_written written bytes (file ∷ []) is = sym (append_assoc file.kept file.since bytes) ∙ ap (λ t. t ++ bytes) is
more_written written bytes (file ∷ (other ∷ files)) is = absurd is

synced_written : (written : List ℕ) (journals : List FileText) → IsWrittenTo written journals
    → with_first synced_file journals ≡ kept_file written ∷ []
synced_written written [] is = absurd is
synced_written written (file ∷ []) is = ap (λ t. kept_file t ∷ []) is
synced_written written (file ∷ (other ∷ files)) is = absurd is

keeping_synced : (snapshots journals : List FileText) (line : List ℕ) → HasOneFile journals → AreKeeping snapshots journals line
    → AreKeeping snapshots (with_first synced_file journals) line
keeping_synced snapshots [] line one keeping = absurd one
keeping_synced snapshots (file ∷ []) line one keeping = keeping_longer snapshots file (synced_file file) file.since line refl keeping
keeping_synced snapshots (file ∷ (other ∷ files)) line one keeping = absurd one

-- ---- lines come, and steps are done

pub append_due : (written bytes : List ℕ) (stage : AppendStage) (disk : StateDisk) → IsAppendedOn written stage disk
    → IsAppendedOn (written_after bytes stage written) (following_append stage) (after_append bytes stage disk)
append_due written bytes OnDisk disk due = due
append_due written bytes (Due WriteLines) disk due = more_written written bytes disk.journal due
append_due written bytes (Due SyncLines) disk due = synced_written written disk.journal due
append_due written bytes (Due SeeNames) disk due = due
append_due written bytes Failed disk due = due

pub append_kept : (written bytes : List ℕ) (stage : AppendStage) (disk : StateDisk) (line : List ℕ)
    → IsAppendedOn written stage disk → KeepsLine disk line → KeepsLine (after_append bytes stage disk) line
append_kept written bytes OnDisk disk line due kept = kept
append_kept written bytes (Due WriteLines) disk line due kept =
    keeping_appending disk.snapshot disk.journal bytes line (one_written written disk.journal due) kept
append_kept written bytes (Due SyncLines) disk line due kept =
    keeping_synced disk.snapshot disk.journal line (one_written written disk.journal due) kept
append_kept written bytes (Due SeeNames) disk line due kept = kept
append_kept written bytes Failed disk line due kept = kept

-- What a step that failed leaves keeps each line that was kept.
pub append_failed : (written bytes : List ℕ) (stage : AppendStage) (disk left : StateDisk) (line : List ℕ)
    → IsAppendedOn written stage disk → KeepsLine disk line → FailsAppend bytes stage disk left → KeepsLine left line
append_failed written bytes OnDisk disk left line due kept fails = subst (λ d. KeepsLine d line) (sym fails) kept
append_failed written bytes (Due WriteLines) disk left line due kept fails = subst (λ d. KeepsLine d line) (sym fails.1)
    (keeping_appending disk.snapshot disk.journal (take fails.0 bytes) line (one_written written disk.journal due) kept)
append_failed written bytes (Due SyncLines) disk left line due kept (inl is) = subst (λ d. KeepsLine d line) (sym is) kept
append_failed written bytes (Due SyncLines) disk left line due kept (inr is) = subst (λ d. KeepsLine d line) (sym is)
    (keeping_synced disk.snapshot disk.journal line (one_written written disk.journal due) kept)
append_failed written bytes (Due SeeNames) disk left line due kept fails = subst (λ d. KeepsLine d line) (sym fails) kept
append_failed written bytes Failed disk left line due kept fails = subst (λ d. KeepsLine d line) (sym fails) kept

-- ---- what is read now

-- What is read now is one of the texts that a stop may leave.
found_now : (name : List FileText) (file : FileText) → IsFirstFile file name → IsFoundAt name (text_now file)
found_now [] file first = absurd first
found_now (own ∷ files) file first = inl (own.since, all_left own.since, ap text_now (sym first))

pub read_now : (disk : StateDisk) (snapshot journal : FileText) (line : List ℕ) → IsFirstFile snapshot disk.snapshot
    → IsFirstFile journal disk.journal → KeepsLine disk line
    → HasWholeLine (text_now snapshot) line ⊎ HasWholeLine (text_now journal) line
read_now disk snapshot journal line at_snapshot at_journal keeps =
    keeps (text_now snapshot) (text_now journal) (found_now disk.snapshot snapshot at_snapshot) (found_now disk.journal journal at_journal)
