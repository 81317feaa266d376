-- Lemmas on a replica that continues with the journal that it found.
use Rattle.std.proofs.Common.{◌≡◌, ℕ, ◌⊎◌, inl, inr, List, [], ◌∷◌, ◌++◌, take, length, sym, ap, subst, refl, ◌∙◌, append-nil}
use Rattle.std.specs.Prelude.{Contains}
use Rattle.state_steps.specs.Files.{AreKeeping, FileText, HasWholeLine, IsFirstFile, IsFoundAt, KeepsLine, StateDisk}
use Rattle.state_steps.specs.Files.{kept_file, settled_name, synced_file, text_now, with_first}
use Rattle.state_steps.specs.Resumes.{FailsResume, IsCutAtLine, IsReadNow, IsResumedOn, ResumeTexts, after_resume, following_resume}
use Rattle.state_steps.specs.declared.resuming.ResumeStage.{ResumeStage}
use Rattle.state_steps.specs.declared.resuming.ResumeStage.TheVariants.{Due, Done, Failed}
use Rattle.state_steps.specs.declared.resuming.ResumeStep.TheVariants.{SyncFound, CutLine, SyncCut}
use Rattle.state_steps.proofs.LineFacts.{all_left, found_has, nothing_left}

-- ---- the journal is put on the disk

-- Once a name's first file is on the disk, each line is kept by it or by the snapshot.
first_has : (snapshots : List FileText) (file : FileText) (files : List FileText) (line snapshot journal : List ℕ)
    → AreKeeping snapshots (file ∷ files) line → IsFoundAt snapshots snapshot → IsFoundAt (synced_file file ∷ []) journal
    → HasWholeLine snapshot line ⊎ HasWholeLine journal line
first_has snapshots file files line snapshot journal keeping at_snapshot at_journal =
    elim (keeping snapshot (text_now file) at_snapshot (inl (file.since, all_left file.since, refl))) [
      | inl has ↦ inl has
      | inr has ↦ inr (found_has (synced_file file) journal line at_journal has)
    ]

keeping_synced : (snapshots journals : List FileText) (line : List ℕ) → AreKeeping snapshots journals line
    → AreKeeping snapshots (with_first synced_file journals) line
keeping_synced snapshots [] line keeping snapshot journal at_snapshot at_journal = keeping snapshot journal at_snapshot at_journal
keeping_synced snapshots (file ∷ files) line keeping snapshot journal at_snapshot (inl left) =
    first_has snapshots file files line snapshot journal keeping at_snapshot (inl left)
keeping_synced snapshots (file ∷ files) line keeping snapshot journal at_snapshot (inr found) =
    keeping snapshot journal at_snapshot (inr found)

keeping_settled_synced : (snapshots journals : List FileText) (line : List ℕ) → AreKeeping snapshots journals line
    → AreKeeping snapshots (settled_name (with_first synced_file journals)) line
keeping_settled_synced snapshots [] line keeping snapshot journal at_snapshot at_journal =
    keeping snapshot journal at_snapshot at_journal
keeping_settled_synced snapshots (file ∷ files) line keeping snapshot journal at_snapshot at_journal =
    first_has snapshots file files line snapshot journal keeping at_snapshot at_journal

-- ---- the part of a line is cut off

cut_has : (texts : ResumeTexts) (line : List ℕ) → IsCutAtLine texts → HasWholeLine texts.found line → HasWholeLine texts.cut line
cut_has texts line is has = subst (λ lines. Contains lines line) (sym is.whole) has

-- The text and what is left of it each have all lines.
keeping_cut : (snapshots journals : List FileText) (texts : ResumeTexts) (line : List ℕ) → IsCutAtLine texts
    → journals ≡ kept_file texts.found ∷ [] → AreKeeping snapshots journals line
    → AreKeeping snapshots (kept_file texts.cut ∷ journals) line
keeping_cut snapshots journals texts line is name keeping snapshot journal at_snapshot (inl left) =
    let at : IsFoundAt (kept_file texts.found ∷ []) texts.found = inl ([], nothing_left [], sym (append-nil texts.found)) in
    elim (keeping snapshot texts.found at_snapshot (subst (λ n. IsFoundAt n texts.found) (sym name) at)) [
      | inl has ↦ inl has
      | inr has ↦ inr (found_has (kept_file texts.cut) journal line (inl left) (cut_has texts line is has))
    ]
keeping_cut snapshots journals texts line is name keeping snapshot journal at_snapshot (inr at_journal) =
    keeping snapshot journal at_snapshot at_journal

-- ---- a step is done

synced_found : (found : List ℕ) (journals : List FileText) → IsReadNow found journals
    → settled_name (with_first synced_file journals) ≡ kept_file found ∷ []
synced_found found [] is = absurd is
synced_found found (file ∷ files) is = ap (λ t. kept_file t ∷ []) is

synced_cut : (cut : List ℕ) (journals : List FileText) → IsFirstFile (kept_file cut) journals
    → settled_name (with_first synced_file journals) ≡ kept_file cut ∷ []
synced_cut cut [] first = absurd first
synced_cut cut (file ∷ files) first = ap (λ f. synced_file f ∷ []) first ∙ ap (λ t. kept_file t ∷ []) (append-nil cut)

pub resume_due : (texts : ResumeTexts) (stage : ResumeStage) (disk : StateDisk) → IsResumedOn texts stage disk
    → IsResumedOn texts (following_resume stage) (after_resume texts.cut stage disk)
resume_due texts (Due SyncFound) disk due = synced_found texts.found disk.journal due
resume_due texts (Due CutLine) disk due = refl
resume_due texts (Due SyncCut) disk due = synced_cut texts.cut disk.journal due
resume_due texts Done disk due = due
resume_due texts Failed disk due = due

pub resume_kept : (texts : ResumeTexts) (stage : ResumeStage) (disk : StateDisk) (line : List ℕ) → IsCutAtLine texts
    → IsResumedOn texts stage disk → KeepsLine disk line → KeepsLine (after_resume texts.cut stage disk) line
resume_kept texts (Due SyncFound) disk line is due kept = keeping_settled_synced disk.snapshot disk.journal line kept
resume_kept texts (Due CutLine) disk line is due kept = keeping_cut disk.snapshot disk.journal texts line is due kept
resume_kept texts (Due SyncCut) disk line is due kept = keeping_settled_synced disk.snapshot disk.journal line kept
resume_kept texts Done disk line is due kept = kept
resume_kept texts Failed disk line is due kept = kept

-- ---- a step that failed

-- What a step that failed leaves keeps each line that was kept.
pub resume_failed : (texts : ResumeTexts) (stage : ResumeStage) (disk left : StateDisk) (line : List ℕ) → IsCutAtLine texts
    → IsResumedOn texts stage disk → KeepsLine disk line → FailsResume texts.cut stage disk left → KeepsLine left line
resume_failed texts stage disk left line is due kept (inl fails) = subst (λ d. KeepsLine d line) (sym fails) kept
resume_failed texts stage disk left line is due kept (inr (inl fails)) =
    subst (λ d. KeepsLine d line) (sym fails) (resume_kept texts stage disk line is due kept)
resume_failed texts stage disk left line is due kept (inr (inr fails)) =
    subst (λ d. KeepsLine d line) (sym fails) (keeping_synced disk.snapshot disk.journal line kept)
