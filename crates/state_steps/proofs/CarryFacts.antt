-- Lemmas on how far a state has been carried over to another configuration.
use Rattle.std.proofs.Common.{◌≡◌, ◌≢◌, ℕ, ◌⊎◌, inl, inr, Bool, List, [], ◌∷◌, ◌++◌, sym, ap, subst, refl, ◌∙◌, append-nil, arith, length}
use Rattle.std.proofs.Common.{Option, None, Some}
use Rattle.state_steps.specs.Carries.{AreApart, CarryDisk, CarryFound, CarryTexts, IsCarryDueOn, IsCarryKeptOn}
use Rattle.state_steps.specs.Carries.{IsCarrySafe, StopLeaves, IsOldState, IsPreviousLine, IsWithoutJournal, StopsInDue, StopsInReplace, StopsInSave}
use Rattle.state_steps.specs.Carries.{IsInSave, after_carry_due, after_start, fate_beside, fate_of_new, following_carry, previous_of}
use Rattle.state_steps.specs.Carries.{saved_state, started_previous}
use Rattle.state_steps.specs.Files.{FileText, HasWholeLine, IsFoundAt, IsLeftOf, IsRemnantOf, KeepsLine, StateDisk, kept_file, settled_name}
use Rattle.state_steps.specs.Saves.{IsSaveDueOn, save_step}
use Rattle.state_steps.specs.Steps.{FailsDue, StateTexts, after_due}
use Rattle.state_steps.specs.declared.carrying_over.CarryStage.{CarryStage}
use Rattle.state_steps.specs.declared.carrying_over.CarryStage.TheVariants.{Due, Done, Failed}
use Rattle.state_steps.specs.declared.carrying_over.CarryStep.TheVariants.{FoldState, WritePrevious, SaveState, ReplacePrevious}
use Rattle.state_steps.specs.declared.new_fate.NewFate.{NewFate}
use Rattle.state_steps.specs.declared.new_fate.NewFate.TheVariants.{GetsName, IsRemoved}
use Rattle.state_steps.specs.declared.saving.SaveStage.{SaveStage}
use Rattle.state_steps.specs.declared.saving.SaveStage as save
use Rattle.state_steps.specs.declared.file_step.FileStep.TheVariants.{WriteSnapshot, SyncSnapshot, ReplaceSnapshot}
use Rattle.state_steps.specs.declared.file_step.FileStep.TheVariants.{SyncFolder, RemoveJournal, BeginJournal, SyncJournal}
use Rattle.state_steps.proofs.LineFacts.{all_left, found_settled, nothing_left, part_of_none}
use Rattle.state_steps.proofs.StepFacts.{none_whole, settled_first}

-- ---- what is found

-- A file all of which is on the disk is found whole.
left_kept : (text found : List ℕ) → IsLeftOf (kept_file text) found → found ≡ text
left_kept text found left = left.2 ∙ ap (λ t. text ++ t) (part_of_none left.0 left.1) ∙ append-nil text

left_of_kept : (file : FileText) (text found : List ℕ) → file ≡ kept_file text → IsLeftOf file found → found ≡ text
left_of_kept file text found is left = left_kept text found (subst (λ f. IsLeftOf f found) is left)

found_one : (text found : List ℕ) → IsFoundAt (kept_file text ∷ []) found → found ≡ text
found_one text found (inl left) = left_kept text found left
found_one text found (inr other) = absurd other

found_kept : (name : List FileText) (text found : List ℕ) → name ≡ kept_file text ∷ [] → IsFoundAt name found → found ≡ text
found_kept name text found is at = found_one text found (subst (λ n. IsFoundAt n found) is at)

-- ---- the rule of a start

started_old : (texts : CarryTexts) (found : CarryFound) → fate_beside texts found.snapshot found.previous_new ≡ IsRemoved
    → started_previous texts found ≡ found.previous
started_old texts found is = ap (λ f. previous_of f found.previous_new found.previous) is

new_or_empty : (new previous : List ℕ)
    → (previous_of GetsName new previous ≡ new) ⊎ ((previous_of GetsName new previous ≡ previous) × (new ≡ []))
new_or_empty [] previous = inr (refl, refl)
new_or_empty (byte ∷ more) previous = inl refl

-- The new file, or `previous` in its place, has the old snapshot.
abbrev IsOldFound : CarryTexts → CarryFound → Type 0
IsOldFound texts found = (found.previous_new ≡ texts.old) ⊎ ((found.previous ≡ texts.old) × (found.previous_new ≡ []))

-- After the rule of a start, the rule changes nothing more.
again : (fate : NewFate) (previous : List ℕ) → previous_of fate [] previous ≡ previous
again GetsName previous = refl
again IsRemoved previous = refl

started_new : (texts : CarryTexts) (found : CarryFound) → AreApart texts → found.snapshot ≡ texts.new → IsOldFound texts found
    → (started_previous texts found ≡ texts.old) ⊎ ((started_previous texts found ≡ found.previous) × (texts.old ≡ []))
started_new texts found apart is (inl old) =
    let fate : fate_beside texts found.snapshot found.previous_new ≡ GetsName =
    ap (λ s. fate_beside texts s found.previous_new) is ∙ ap (fate_beside texts texts.new) old ∙ apart.named in
    let starts = ap (λ f. previous_of f found.previous_new found.previous) fate in
    elim (new_or_empty found.previous_new found.previous) [
      | inl new ↦ inl (starts ∙ new ∙ old)
      | inr empty ↦ inr (starts ∙ empty.0, sym old ∙ empty.1)
    ]
started_new texts found apart is (inr old) =
    let fate = fate_beside texts found.snapshot found.previous_new in
    inl (ap (λ n. previous_of fate n found.previous) old.1 ∙ again fate found.previous ∙ old.0)

pub started_again : (texts : CarryTexts) (found : CarryFound)
    → started_previous texts (after_start texts found) ≡ started_previous texts found
started_again texts found = again (fate_beside texts found.snapshot []) (started_previous texts found)

pub start_same : (texts : CarryTexts) (found : CarryFound) → after_start texts (after_start texts found) ≡ after_start texts found
start_same texts found = ap (λ p. record found { previous = p; previous_new = [] }) (started_again texts found)

pub safe_again : (texts : CarryTexts) (found : CarryFound) (line : List ℕ) → IsCarrySafe texts found line
    → IsCarrySafe texts (after_start texts found) line
safe_again texts found line safe = record {
  kept = subst (λ p. HasWholeLine found.snapshot line ⊎ HasWholeLine found.journal line ⊎ HasWholeLine p line)
      (sym (started_again texts found)) safe.kept;
  previous = inl (started_again texts found);
  journal = safe.journal;
}

-- ---- what is safe

-- A start with a state of the old configuration has the line if it finds it in the state's files or in `previous`.
safe_old : (texts : CarryTexts) (found : CarryFound) (line : List ℕ) → texts.head found.snapshot ≢ texts.head texts.new
    → fate_beside texts found.snapshot found.previous_new ≡ IsRemoved
    → HasWholeLine found.snapshot line ⊎ HasWholeLine found.journal line ⊎ HasWholeLine found.previous line
    → IsCarrySafe texts found line
safe_old texts found line other is has = record {
  kept = subst (λ p. HasWholeLine found.snapshot line ⊎ HasWholeLine found.journal line ⊎ HasWholeLine p line)
      (sym (started_old texts found is)) has;
  previous = inl (started_old texts found is);
  journal = λ new. absurd (other new);
}

old_line : (texts : CarryTexts) (found : CarryFound) (line : List ℕ)
    → (started_previous texts found ≡ texts.old) ⊎ ((started_previous texts found ≡ found.previous) × (texts.old ≡ []))
    → HasWholeLine texts.old line → HasWholeLine (started_previous texts found) line
old_line texts found line (inl is) has = subst (λ p. HasWholeLine p line) (sym is) has
old_line texts found line (inr empty) has = absurd (none_whole line (subst (λ p. HasWholeLine p line) empty.1 has))

new_previous : (texts : CarryTexts) (found : CarryFound)
    → (started_previous texts found ≡ texts.old) ⊎ ((started_previous texts found ≡ found.previous) × (texts.old ≡ []))
    → (started_previous texts found ≡ found.previous) ⊎ (started_previous texts found ≡ texts.old)
new_previous texts found (inl is) = inr is
new_previous texts found (inr empty) = inl empty.0

new_line : (texts : CarryTexts) (found : CarryFound) (line : List ℕ) → found.snapshot ≡ texts.new
    → (started_previous texts found ≡ texts.old) ⊎ ((started_previous texts found ≡ found.previous) × (texts.old ≡ []))
    → HasWholeLine texts.old line ⊎ HasWholeLine texts.new line
    → HasWholeLine found.snapshot line ⊎ HasWholeLine found.journal line ⊎ HasWholeLine (started_previous texts found) line
new_line texts found line is starts (inl has) = inr (inr (old_line texts found line starts has))
new_line texts found line is starts (inr has) = inl (subst (λ s. HasWholeLine s line) (sym is) has)

-- A start with the new snapshot has each line of the two snapshots.
safe_new : (texts : CarryTexts) (found : CarryFound) (line : List ℕ) → AreApart texts → found.snapshot ≡ texts.new → found.journal ≡ []
    → IsOldFound texts found → HasWholeLine texts.old line ⊎ HasWholeLine texts.new line → IsCarrySafe texts found line
safe_new texts found line apart is empty old has =
    let starts = started_new texts found apart is old in
    record {
      kept = new_line texts found line is starts has;
      previous = new_previous texts found starts;
      journal = λ new. empty;
    }

-- ---- a stop in the middle of a step

-- Next to the old snapshot a part of it is removed.
removed_part : (texts : CarryTexts) (found : CarryFound) → AreApart texts → found.snapshot ≡ texts.old → IsRemnantOf texts.old found.previous_new
    → fate_beside texts found.snapshot found.previous_new ≡ IsRemoved
removed_part texts found apart is part =
    ap (λ s. fate_beside texts s found.previous_new) is ∙ apart.left found.previous_new part

-- So is a file without bytes, next to any.
removed_none : (state : Option (List ℕ)) (whole : Bool) → fate_of_new state None whole ≡ IsRemoved
removed_none None whole = refl
removed_none (Some state) whole = refl

removed_empty : (texts : CarryTexts) (found : CarryFound) → AreApart texts → found.previous_new ≡ []
    → fate_beside texts found.snapshot found.previous_new ≡ IsRemoved
removed_empty texts found apart is =
    ap (λ n. fate_of_new (texts.head found.snapshot) (texts.head n) (texts.is_whole n)) is
    ∙ ap (λ h. fate_of_new (texts.head found.snapshot) h (texts.is_whole [])) apart.none
    ∙ removed_none (texts.head found.snapshot) (texts.is_whole [])

-- A start with the old snapshot has each line of it, and those that are taken back.
safe_saved : (texts : CarryTexts) (disk : CarryDisk) (found : CarryFound) (line : List ℕ) → AreApart texts → found.snapshot ≡ texts.old
    → IsRemnantOf texts.old found.previous_new → IsFoundAt disk.previous found.previous
    → HasWholeLine texts.old line ⊎ IsPreviousLine texts disk line → IsCarrySafe texts found line
safe_saved texts disk found line apart is part at (inl has) =
    safe_old texts found line (λ new. apart.heads (sym (ap texts.head is) ∙ new)) (removed_part texts found apart is part)
    (inl (subst (λ s. HasWholeLine s line) (sym is) has))
safe_saved texts disk found line apart is part at (inr back) =
    safe_old texts found line (λ new. apart.heads (sym (ap texts.head is) ∙ new)) (removed_part texts found apart is part)
    (inr (inr (back.0 found.previous at)))

-- All of a text is a part of it, and nothing is.
part_whole : (text found : List ℕ) → found ≡ text → IsRemnantOf text found
part_whole text found is = subst (IsRemnantOf text) (sym is) (all_left text)

part_none : (text found : List ℕ) → found ≡ [] → IsRemnantOf text found
part_none text found is = subst (IsRemnantOf text) (sym is) (nothing_left text)

back_or_new : (texts : CarryTexts) (disk : CarryDisk) (line : List ℕ) → HasWholeLine texts.old line ⊎ IsPreviousLine texts disk line
    → HasWholeLine texts.old line ⊎ HasWholeLine texts.new line
back_or_new texts disk line (inl has) = inl has
back_or_new texts disk line (inr back) = back.1

fold_or_back : (texts : CarryTexts) (disk : CarryDisk) (line : List ℕ)
    → (KeepsLine disk.state line × HasWholeLine texts.old line) ⊎ IsPreviousLine texts disk line
    → HasWholeLine texts.old line ⊎ IsPreviousLine texts disk line
fold_or_back texts disk line (inl kept) = inl kept.1
fold_or_back texts disk line (inr back) = inr back

in_state : (found : CarryFound) (line : List ℕ) → HasWholeLine found.snapshot line ⊎ HasWholeLine found.journal line
    → HasWholeLine found.snapshot line ⊎ HasWholeLine found.journal line ⊎ HasWholeLine found.previous line
in_state found line (inl has) = inl has
in_state found line (inr has) = inr (inl has)

in_fold : (texts : CarryTexts) (disk : CarryDisk) (found : CarryFound) (line : List ℕ) → AreApart texts → IsOldState texts disk
    → (KeepsLine disk.state line × HasWholeLine texts.old line) ⊎ IsPreviousLine texts disk line
    → StopsInSave texts.old disk.state found.snapshot found.journal → IsFoundAt disk.previous found.previous
    → found.previous_new ≡ [] → IsCarrySafe texts found line
in_fold texts disk found line apart due (inl kept) (inl at) previous none =
    safe_old texts found line (due.snapshot found.snapshot at.0) (removed_empty texts found apart none)
    (in_state found line (kept.0 found.snapshot found.journal at.0 at.1))
in_fold texts disk found line apart due (inr back) (inl at) previous none =
    safe_old texts found line (due.snapshot found.snapshot at.0) (removed_empty texts found apart none)
    (inr (inr (back.0 found.previous previous)))
in_fold texts disk found line apart due kept (inr at) previous none =
    safe_saved texts disk found line apart at.0 (part_none texts.old found.previous_new none) previous (fold_or_back texts disk line kept)

without_journal : (disk : StateDisk) (journal : List ℕ) → IsWithoutJournal disk → IsFoundAt disk.journal journal ⊎ (journal ≡ [])
    → journal ≡ []
without_journal disk journal without (inl at) = without journal at
without_journal disk journal without (inr is) = is

in_save : (texts : CarryTexts) (disk : CarryDisk) (found : CarryFound) (line : List ℕ) → AreApart texts
    → IsCarryDueOn texts (Due SaveState) disk → HasWholeLine texts.old line ⊎ IsPreviousLine texts disk line
    → StopsInSave texts.new disk.state found.snapshot found.journal → IsFoundAt disk.previous found.previous
    → IsLeftOf disk.previous_new found.previous_new → IsCarrySafe texts found line
in_save texts disk found line apart due kept (inl at) previous left =
    safe_saved texts disk found line apart (found_kept disk.state.snapshot texts.old found.snapshot due.0 at.0)
    (part_whole texts.old found.previous_new (left_of_kept disk.previous_new texts.old found.previous_new due.2 left)) previous kept
in_save texts disk found line apart due kept (inr at) previous left =
    safe_new texts found line apart at.0 (without_journal disk.state found.journal due.1 at.1)
    (inl (left_of_kept disk.previous_new texts.old found.previous_new due.2 left)) (back_or_new texts disk line kept)

old_found : (texts : CarryTexts) (disk : CarryDisk) (found : CarryFound) → disk.previous_new ≡ kept_file texts.old
    → StopsInReplace disk found.previous found.previous_new → IsOldFound texts found
old_found texts disk found is (inl at) = inl (left_of_kept disk.previous_new texts.old found.previous_new is at.1)
old_found texts disk found is (inr at) = inr (left_of_kept disk.previous_new texts.old found.previous is at.0, at.1)

in_writing : (texts : CarryTexts) (disk : CarryDisk) (found : CarryFound) → disk.previous_new ≡ kept_file []
    → IsLeftOf disk.previous_new found.previous_new ⊎ IsRemnantOf texts.old found.previous_new → IsRemnantOf texts.old found.previous_new
in_writing texts disk found is (inl left) =
    part_none texts.old found.previous_new (left_of_kept disk.previous_new [] found.previous_new is left)
in_writing texts disk found is (inr part) = part

-- Whatever a stop in the middle of the step leaves is safe.
pub safe_within : (texts : CarryTexts) (stage : CarryStage) (disk : CarryDisk) (found : CarryFound) (line : List ℕ) → AreApart texts
    → IsCarryDueOn texts stage disk → IsCarryKeptOn texts stage disk line → StopsInDue texts stage disk found
    → IsCarrySafe texts found line
safe_within texts (Due FoldState) disk found line apart due kept stops =
    in_fold texts disk found line apart due kept stops.0 stops.1
    (left_of_kept disk.previous_new [] found.previous_new due.previous_new stops.2)
safe_within texts (Due WritePrevious) disk found line apart due kept stops =
    safe_saved texts disk found line apart (found_kept disk.state.snapshot texts.old found.snapshot due.0 stops.0)
    (in_writing texts disk found due.2 stops.3) stops.2 kept
safe_within texts (Due SaveState) disk found line apart due kept stops =
    in_save texts disk found line apart due kept stops.0 stops.1 stops.2
safe_within texts (Due ReplacePrevious) disk found line apart due kept stops =
    safe_new texts found line apart (found_kept disk.state.snapshot texts.new found.snapshot due.0 stops.0)
    (due.1 found.journal stops.1) (old_found texts disk found due.2 stops.2) kept
safe_within texts Done disk found line apart due kept stops =
    safe_new texts found line apart (found_kept disk.state.snapshot texts.new found.snapshot due.0 stops.snapshot)
    (due.1 found.journal stops.journal)
    (inr (
      found_kept disk.previous texts.old found.previous due.2 stops.previous,
      left_of_kept disk.previous_new [] found.previous_new due.3 stops.previous_new,
    )) kept
safe_within texts Failed disk found line apart due kept stops = kept found stops

-- What a stop before the step leaves, one in its middle may leave too.
stops_before : (texts : CarryTexts) (stage : CarryStage) (disk : CarryDisk) (found : CarryFound) → StopLeaves disk found
    → StopsInDue texts stage disk found
stops_before texts (Due FoldState) disk found left = (inl (left.snapshot, left.journal), left.previous, left.previous_new)
stops_before texts (Due WritePrevious) disk found left = (left.snapshot, left.journal, left.previous, inl left.previous_new)
stops_before texts (Due SaveState) disk found left = (inl (left.snapshot, left.journal), left.previous, left.previous_new)
stops_before texts (Due ReplacePrevious) disk found left = (left.snapshot, left.journal, inl (left.previous, left.previous_new))
stops_before texts Done disk found left = left
stops_before texts Failed disk found left = left

pub safe_now : (texts : CarryTexts) (stage : CarryStage) (disk : CarryDisk) (found : CarryFound) (line : List ℕ) → AreApart texts
    → IsCarryDueOn texts stage disk → IsCarryKeptOn texts stage disk line → StopLeaves disk found → IsCarrySafe texts found line
safe_now texts stage disk found line apart due kept left =
    safe_within texts stage disk found line apart due kept (stops_before texts stage disk found left)

-- ---- a step is done

without_settled : (disk : StateDisk) → settled_name disk.journal ≡ kept_file [] ∷ []
    → IsWithoutJournal (record disk { journal = settled_name disk.journal })
without_settled disk is text at = found_kept (settled_name disk.journal) [] text is at

without_saved : (saved : List ℕ) (disk : StateDisk) → IsWithoutJournal disk → IsWithoutJournal (saved_state saved disk)
without_saved saved disk without text (inl left) = left_kept [] text left
without_saved saved disk without text (inr at) = without text at

pub carry_due : (texts : CarryTexts) (stage : CarryStage) (disk : CarryDisk) → IsCarryDueOn texts stage disk
    → IsCarryDueOn texts (following_carry stage) (after_carry_due texts stage disk)
carry_due texts (Due FoldState) disk due = (refl, refl, due.previous_new)
carry_due texts (Due WritePrevious) disk due = (
  due.0,
  without_settled disk.state (settled_first disk.state.journal (kept_file []) due.1),
  refl,
)
carry_due texts (Due SaveState) disk due = (refl, without_saved texts.new disk.state due.1, due.2)
carry_due texts (Due ReplacePrevious) disk due = (due.0, due.1, ap (λ file. file ∷ []) due.2, refl)
carry_due texts Done disk due = due
carry_due texts Failed disk due = due

pub carry_kept : (texts : CarryTexts) (stage : CarryStage) (disk : CarryDisk) (line : List ℕ) → IsCarryKeptOn texts stage disk line
    → IsCarryKeptOn texts (following_carry stage) (after_carry_due texts stage disk) line
carry_kept texts (Due FoldState) disk line (inl kept) = inl kept.1
carry_kept texts (Due FoldState) disk line (inr back) = inr back
carry_kept texts (Due WritePrevious) disk line (inl has) = inl has
carry_kept texts (Due WritePrevious) disk line (inr back) = inr back
carry_kept texts (Due SaveState) disk line (inl has) = inl has
carry_kept texts (Due SaveState) disk line (inr back) = back.1
carry_kept texts (Due ReplacePrevious) disk line kept = kept
carry_kept texts Done disk line kept = kept
carry_kept texts Failed disk line kept = kept

-- ---- a whole save as one step

pub begins_save : (text : List ℕ) (disk : StateDisk) → IsInSave text disk disk
begins_save text disk = record {
  both = λ snapshot. λ journal. λ at_snapshot. λ at_journal. inl (at_snapshot, at_journal);
  alone = λ journal. λ at. inl at;
}

replaced_both : (text : List ℕ) (start disk : StateDisk) (snapshot journal : List ℕ) → disk.new ≡ kept_file text
    → IsInSave text start disk → IsFoundAt (disk.new ∷ disk.snapshot) snapshot → IsFoundAt disk.journal journal
    → StopsInSave text start snapshot journal
replaced_both text start disk snapshot journal is before (inl left) at = inr (left_of_kept disk.new text snapshot is left, before.alone journal at)
replaced_both text start disk snapshot journal is before (inr found) at = before.both snapshot journal found at

removed_both : (text : List ℕ) (start disk : StateDisk) (snapshot journal : List ℕ) → disk.snapshot ≡ kept_file text ∷ []
    → IsInSave text start disk → IsFoundAt disk.snapshot snapshot → IsFoundAt (kept_file [] ∷ disk.journal) journal
    → StopsInSave text start snapshot journal
removed_both text start disk snapshot journal is before found (inl left) =
    inr (found_kept disk.snapshot text snapshot is found, inr (left_kept [] journal left))
removed_both text start disk snapshot journal is before found (inr at) = before.both snapshot journal found at

removed_alone : (text : List ℕ) (start disk : StateDisk) (journal : List ℕ) → IsInSave text start disk
    → IsFoundAt (kept_file [] ∷ disk.journal) journal → IsFoundAt start.journal journal ⊎ (journal ≡ [])
removed_alone text start disk journal before (inl left) = inr (left_kept [] journal left)
removed_alone text start disk journal before (inr at) = before.alone journal at

pub done_in_save : (texts : StateTexts) (stage : SaveStage) (start disk : StateDisk) → IsSaveDueOn texts stage disk
    → IsInSave texts.snapshot start disk → IsInSave texts.snapshot start (after_due texts (save_step stage) disk)
done_in_save texts (save.TheVariants.Due WriteSnapshot) start disk due before = record { both = before.both; alone = before.alone }
done_in_save texts (save.TheVariants.Due SyncSnapshot) start disk due before = record { both = before.both; alone = before.alone }
done_in_save texts (save.TheVariants.Due ReplaceSnapshot) start disk due before = record {
  both = λ snapshot. λ journal. λ found. λ at. replaced_both texts.snapshot start disk snapshot journal due before found at;
  alone = before.alone;
}
done_in_save texts (save.TheVariants.Due SyncFolder) start disk due before = record {
  both = λ snapshot. λ journal. λ found. λ at. before.both snapshot journal (found_settled disk.snapshot snapshot found) at;
  alone = before.alone;
}
done_in_save texts (save.TheVariants.Due RemoveJournal) start disk due before = record {
  both = λ snapshot. λ journal. λ found. λ at. removed_both texts.snapshot start disk snapshot journal due before found at;
  alone = λ journal. λ at. removed_alone texts.snapshot start disk journal before at;
}
done_in_save texts (save.TheVariants.Due BeginJournal) start disk due before = absurd due
done_in_save texts (save.TheVariants.Due SyncJournal) start disk due before = absurd due
done_in_save texts save.TheVariants.Done start disk due before = before
done_in_save texts save.TheVariants.Failed start disk due before = before

done_or_not : (texts : StateTexts) (stage : SaveStage) (start disk left : StateDisk) → IsSaveDueOn texts stage disk
    → IsInSave texts.snapshot start disk → (left ≡ disk) ⊎ (left ≡ after_due texts (save_step stage) disk)
    → IsInSave texts.snapshot start left
done_or_not texts stage start disk left due before (inl is) = subst (λ d. IsInSave texts.snapshot start d) (sym is) before
done_or_not texts stage start disk left due before (inr is) =
    subst (λ d. IsInSave texts.snapshot start d) (sym is) (done_in_save texts stage start disk due before)

pub failed_in_save : (texts : StateTexts) (stage : SaveStage) (start disk left : StateDisk) → IsSaveDueOn texts stage disk
    → IsInSave texts.snapshot start disk → FailsDue texts (save_step stage) disk left → IsInSave texts.snapshot start left
failed_in_save texts (save.TheVariants.Due WriteSnapshot) start disk left due before fails =
    subst (λ d. IsInSave texts.snapshot start d) (sym fails.1) (record { both = before.both; alone = before.alone })
failed_in_save texts (save.TheVariants.Due SyncSnapshot) start disk left due before fails =
    done_or_not texts (save.TheVariants.Due SyncSnapshot) start disk left due before fails
failed_in_save texts (save.TheVariants.Due ReplaceSnapshot) start disk left due before fails =
    done_or_not texts (save.TheVariants.Due ReplaceSnapshot) start disk left due before fails
failed_in_save texts (save.TheVariants.Due SyncFolder) start disk left due before fails =
    done_or_not texts (save.TheVariants.Due SyncFolder) start disk left due before fails
failed_in_save texts (save.TheVariants.Due RemoveJournal) start disk left due before fails =
    done_or_not texts (save.TheVariants.Due RemoveJournal) start disk left due before fails
failed_in_save texts (save.TheVariants.Due BeginJournal) start disk left due before fails = absurd due
failed_in_save texts (save.TheVariants.Due SyncJournal) start disk left due before fails = absurd due
failed_in_save texts save.TheVariants.Done start disk left due before fails = subst (λ d. IsInSave texts.snapshot start d) (sym fails) before
failed_in_save texts save.TheVariants.Failed start disk left due before fails = subst (λ d. IsInSave texts.snapshot start d) (sym fails) before
