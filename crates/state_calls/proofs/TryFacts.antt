-- Lemmas on what may be there after one more try.
use native.Mathlib.Numerals.{unary_clauses}
use Rattle.std.specs.Prelude.{◌≢◌, OnErr, OnOk}
use Rattle.std.proofs.Math.Arith.{lt_of_le-ne}
use Rattle.std.proofs.Common.{◌≡◌, ◌≤◌, ◌<◌, ◌-◌, Result, Ok, Err, ◌∙◌, ◌+◌, ℕ, zero, suc, Bool, true, false, List, [], ◌∷◌}
use Rattle.std.proofs.Common.{Option, None, Some, ap, arith, refl, subst, sym}
use Rattle.state_calls.specs.Tries.{AfterTries, HasTried, HoldsSince, MayBe}
use Rattle.state_steps.specs.Files.{HasWholeLine}
use Rattle.state_steps.specs.Steps.{StateTexts, WritesLine}
use Rattle.state_steps.specs.Appends.{append_step, written_after}
use Rattle.state_steps.specs.Folds.{fold_end, following_step}
use Rattle.state_calls.specs.Looks.{end_of_fold, end_of_shortening}
use Rattle.state_steps.specs.Shortenings.{following_shorten}
use Rattle.state_steps.specs.declared.shortening.ShortenStep.{ShortenStep}
use Rattle.state_steps.specs.declared.shortening.ShortenStep.TheVariants.{WriteJournal, SyncNew, ReplaceJournal}
use Rattle.state_steps.specs.declared.shortening.ShortenStep.TheVariants as shorten
use Rattle.state_steps.specs.declared.folding.FoldEnd.TheVariants.{JournalContinues}
use Rattle.state_steps.specs.Begins.{begin_change, begin_step, begin_steps_left}
use Rattle.state_steps.specs.Carries.{carry_step, carry_steps_left, following_carry}
use Rattle.state_steps.specs.Resumes.{following_resume, resume_step, resume_steps_left}
use Rattle.state_steps.specs.declared.appending.AppendStep.{AppendStep}
use Rattle.state_steps.specs.declared.appending.AppendStep.TheVariants.{WriteLines, SyncLines, SeeNames}
use Rattle.state_steps.specs.declared.appending.AppendStage.{AppendStage}
use Rattle.state_steps.specs.declared.appending.AppendStage as append
use Rattle.state_steps.specs.declared.beginning.BeginStage.{BeginStage}
use Rattle.state_steps.specs.declared.beginning.BeginStage as stages
use Rattle.state_steps.specs.declared.beginning.BeginStage.TheVariants.{Change}
use Rattle.state_steps.specs.declared.beginning.BeginStep as begin
use Rattle.state_steps.specs.declared.carrying_over.CarryStep.{CarryStep}
use Rattle.state_steps.specs.declared.carrying_over.CarryStep.TheVariants.{FoldState, WritePrevious, SaveState, ReplacePrevious}
use Rattle.state_steps.specs.declared.carrying_over.CarryStage.{CarryStage}
use Rattle.state_steps.specs.declared.carrying_over.CarryStage as carry
use Rattle.state_steps.specs.declared.file_step.FileStep.{FileStep}
use Rattle.state_steps.specs.declared.file_step.FileStep.TheVariants.{WriteSnapshot, SyncSnapshot, ReplaceSnapshot}
use Rattle.state_steps.specs.declared.file_step.FileStep.TheVariants.{SyncFolder, RemoveJournal, BeginJournal, SyncJournal}
use Rattle.state_steps.specs.declared.resuming.ResumeStep.{ResumeStep}
use Rattle.state_steps.specs.declared.resuming.ResumeStep.TheVariants.{SyncFound, CutLine, SyncCut}
use Rattle.state_steps.specs.declared.resuming.ResumeStage.{ResumeStage}
use Rattle.state_steps.specs.declared.resuming.ResumeStage as resume

pub last_try : {P D : Type 0} (Makes : P × Bool → D → D → Type 0) (step : P) (done : Bool) (before after : List (P × Bool)) (first disk : D)
    → after ≡ (step, done) ∷ before → MayBe Makes after first disk
    → (was : D) × MayBe Makes before first was × Makes (step, done) was disk
last_try Makes step done before after first disk tried may = subst (λ tries. MayBe Makes tries first disk) tried may

never : {A : Type 0} {a : A} → None ≡ Some a → ⊥
never is = cc

-- ---- what holds all the time

pub no_try : {P : Type 0} (Holds : List (P × Bool) → Type 0) (tries : List (P × Bool)) → Holds tries → HoldsSince Holds tries tries
no_try Holds tries holds = ([], refl, holds)

pub one_try : {P : Type 0} (Holds : List (P × Bool) → Type 0) (due : Option P) (done : Bool) (before now after : List (P × Bool))
    → HasTried due done now after → HoldsSince Holds before now → Holds after → HoldsSince Holds before after
one_try Holds None done before now after tried since holds = subst (HoldsSince Holds before) (sym tried.1) since
one_try Holds (Some step) done before now after tried since holds =
    let is = tried ∙ ap (λ tries. (step, done) ∷ tries) since.1 in ((step, done) ∷ since.0, is, (subst Holds is holds, since.2))

pub tried_due : {P : Type 0} (due : Option P) (step : P) (done : Bool) (before after : List (P × Bool)) → due ≡ Some step
    → HasTried due done before after → after ≡ (step, done) ∷ before
tried_due due step done before after is tried = subst (λ it. HasTried it done before after) is tried

-- ---- a look tries nothing

pub after_look : {P D : Type 0} (Makes : P × Bool → D → D → Type 0) (now before : List (P × Bool)) (first : D) (Are : D → Type 0)
    → now ≡ before → AfterTries Makes before first Are → AfterTries Makes now first Are
after_look Makes now before first Are same after = subst (λ tries. AfterTries Makes tries first Are) (sym same) after

pub since_look : {P : Type 0} (Holds : List (P × Bool) → Type 0) (now before begun : List (P × Bool)) → now ≡ before
    → HoldsSince Holds begun before → HoldsSince Holds begun now
since_look Holds now before begun same since = subst (HoldsSince Holds begun) (sym same) since

-- ---- what is written

pub writes_line : (texts : StateTexts) (due : Option FileStep) (line : List ℕ) → HasWholeLine texts.snapshot line → WritesLine texts due line
writes_line texts None line has = tt
writes_line texts (Some WriteSnapshot) line has = has
writes_line texts (Some SyncSnapshot) line has = tt
writes_line texts (Some ReplaceSnapshot) line has = tt
writes_line texts (Some SyncFolder) line has = tt
writes_line texts (Some RemoveJournal) line has = tt
writes_line texts (Some BeginJournal) line has = tt
writes_line texts (Some SyncJournal) line has = tt

-- ---- how far a replica came that continues

abbrev pub resumed_at : ℕ → ResumeStage
resumed_at zero = resume.TheVariants.Due SyncFound
resumed_at (suc zero) = resume.TheVariants.Due CutLine
resumed_at (suc (suc zero)) = resume.TheVariants.Due SyncCut
resumed_at (suc (suc (suc more))) = resume.TheVariants.Done

pub resumed_first : (stage : ResumeStage) → resume_steps_left stage ≡ 3 → stage ≡ resumed_at zero
resumed_first (resume.TheVariants.Due SyncFound) three = refl
resumed_first (resume.TheVariants.Due CutLine) three = absurd (omega (arith, three))
resumed_first (resume.TheVariants.Due SyncCut) three = absurd (omega (arith, three))
resumed_first resume.TheVariants.Done three = absurd (omega (arith, three))
resumed_first resume.TheVariants.Failed three = absurd (omega (arith, three))

pub resumed_next : (count : ℕ) → following_resume (resumed_at count) ≡ resumed_at (count + 1)
resumed_next zero = refl
resumed_next (suc zero) = refl
resumed_next (suc (suc zero)) = refl
resumed_next (suc (suc (suc more))) = simp unary_clauses refl

-- ---- how far a fold came

abbrev pub fold_left : Option FileStep → ℕ
fold_left (Some WriteSnapshot) = 7
fold_left (Some SyncSnapshot) = 6
fold_left (Some ReplaceSnapshot) = 5
fold_left (Some SyncFolder) = 4
fold_left (Some BeginJournal) = 3
fold_left (Some SyncJournal) = 2
fold_left (Some RemoveJournal) = 1
fold_left None = 0

pub writes_after : (texts : StateTexts) (whole : Bool) (due : Option FileStep) (line : List ℕ) → WritesLine texts (following_step whole due) line
writes_after texts whole (Some WriteSnapshot) line = tt
writes_after texts whole (Some SyncSnapshot) line = tt
writes_after texts whole (Some ReplaceSnapshot) line = tt
writes_after texts true (Some SyncFolder) line = tt
writes_after texts false (Some SyncFolder) line = tt
writes_after texts whole (Some BeginJournal) line = tt
writes_after texts whole (Some SyncJournal) line = tt
writes_after texts whole (Some RemoveJournal) line = tt
writes_after texts whole None line = tt

pub fold_goes_on : (whole : Bool) (step next : FileStep) (tries : List (FileStep × Bool)) → following_step whole (Some step) ≡ Some next
    → next ≢ SyncJournal → end_of_fold ((step, true) ∷ tries) ≡ JournalContinues
fold_goes_on whole WriteSnapshot next tries is other = refl
fold_goes_on whole SyncSnapshot next tries is other = refl
fold_goes_on whole ReplaceSnapshot next tries is other = refl
fold_goes_on whole SyncFolder next tries is other = refl
fold_goes_on whole RemoveJournal next tries is other = refl
fold_goes_on whole BeginJournal next tries is other = absurd (other (let same : Some SyncJournal ≡ Some next = is in cc))
fold_goes_on whole SyncJournal next tries is other = absurd (never is)

pub fold_failed : (step : FileStep) (tries : List (FileStep × Bool)) → fold_end (Some step) ≡ end_of_fold ((step, false) ∷ tries)
fold_failed WriteSnapshot tries = refl
fold_failed SyncSnapshot tries = refl
fold_failed ReplaceSnapshot tries = refl
fold_failed SyncFolder tries = refl
fold_failed RemoveJournal tries = refl
fold_failed BeginJournal tries = refl
fold_failed SyncJournal tries = refl

-- ---- how far a shortening came

pub shortening_goes_on : (step next : ShortenStep) (lines : List ℕ) (tries : List ((ShortenStep × List ℕ) × Bool))
    → following_shorten (Some step) ≡ Some next → next ≢ shorten.SyncFolder → end_of_shortening (((step, lines), true) ∷ tries) ≡ JournalContinues
shortening_goes_on WriteJournal next lines tries is other = refl
shortening_goes_on SyncNew next lines tries is other = refl
shortening_goes_on ReplaceJournal next lines tries is other = absurd (other (let same : Some shorten.SyncFolder ≡ Some next = is in cc))
shortening_goes_on shorten.SyncFolder next lines tries is other = absurd (never is)

-- ---- how far a carry-over came

abbrev pub carried_at : ℕ → CarryStage
carried_at zero = carry.TheVariants.Due FoldState
carried_at (suc zero) = carry.TheVariants.Due WritePrevious
carried_at (suc (suc zero)) = carry.TheVariants.Due SaveState
carried_at (suc (suc (suc zero))) = carry.TheVariants.Due ReplacePrevious
carried_at (suc (suc (suc (suc more)))) = carry.TheVariants.Done

pub carried_first : (stage : CarryStage) → carry_steps_left stage ≡ 4 → stage ≡ carried_at zero
carried_first (carry.TheVariants.Due FoldState) four = refl
carried_first (carry.TheVariants.Due WritePrevious) four = absurd (omega (arith, four))
carried_first (carry.TheVariants.Due SaveState) four = absurd (omega (arith, four))
carried_first (carry.TheVariants.Due ReplacePrevious) four = absurd (omega (arith, four))
carried_first carry.TheVariants.Done four = absurd (omega (arith, four))
carried_first carry.TheVariants.Failed four = absurd (omega (arith, four))

pub carried_next : (count : ℕ) → following_carry (carried_at count) ≡ carried_at (count + 1)
carried_next zero = refl
carried_next (suc zero) = refl
carried_next (suc (suc zero)) = refl
carried_next (suc (suc (suc zero))) = refl
carried_next (suc (suc (suc (suc more)))) = simp unary_clauses refl

-- ---- what is appended

pub sync_other : SyncLines ≢ WriteLines
sync_other same = cc

pub see_other : SeeNames ≢ WriteLines
see_other same = cc

pub none_written : (stage : AppendStage) (step : AppendStep) (lines written : List ℕ) → stage ≡ append.TheVariants.Due step → step ≢ WriteLines
    → written_after lines stage written ≡ written
none_written append.TheVariants.OnDisk step lines written due other = refl
none_written (append.TheVariants.Due WriteLines) step lines written due other = absurd (other (cc))
none_written (append.TheVariants.Due SyncLines) step lines written due other = refl
none_written (append.TheVariants.Due SeeNames) step lines written due other = refl
none_written append.TheVariants.Failed step lines written due other = refl

-- ---- what holds after each result

pub either_way : {A E : Type 0} {P : Type 0} (result : Result A E) → OnOk result P → OnErr result P → P
either_way (Ok value) ok err = ok
either_way (Err fault) ok err = err

pub on_err : {A E : Type 0} {P : Type 0} (result : Result A E) → P → OnErr result P
on_err (Ok value) holds = tt
on_err (Err fault) holds = holds

-- ---- the stage, when a step is due

pub append_due : (stage : AppendStage) (step : AppendStep) → Some step ≡ append_step stage → stage ≡ append.TheVariants.Due step
append_due append.TheVariants.OnDisk step due = cc
append_due (append.TheVariants.Due other) step due = cc
append_due append.TheVariants.Failed step due = cc

pub resume_due : (stage : ResumeStage) (step : ResumeStep) → Some step ≡ resume_step stage → stage ≡ resume.TheVariants.Due step
resume_due (resume.TheVariants.Due other) step due = cc
resume_due resume.TheVariants.Done step due = cc
resume_due resume.TheVariants.Failed step due = cc

pub carry_due : (stage : CarryStage) (step : CarryStep) → Some step ≡ carry_step stage → stage ≡ carry.TheVariants.Due step
carry_due (carry.TheVariants.Due other) step due = cc
carry_due carry.TheVariants.Done step due = cc
carry_due carry.TheVariants.Failed step due = cc

pub begin_due : (stage : BeginStage) (step : FileStep) → Some (begin.TheVariants.Change step) ≡ begin_step stage → begin_change stage ≡ Some step
begin_due stages.TheVariants.LoadAndSave step due = cc
begin_due stages.TheVariants.Load step due = cc
begin_due (stages.TheVariants.Change other) step due = cc
begin_due stages.TheVariants.Done step due = cc
begin_due stages.TheVariants.Failed step due = cc

-- ---- a beginning does not pass the step at which it is to stop

abbrev pub change_at : ℕ → Option FileStep
change_at (suc zero) = Some SyncJournal
change_at (suc (suc zero)) = Some BeginJournal
change_at (suc (suc (suc zero))) = Some RemoveJournal
change_at (suc (suc (suc (suc zero)))) = Some SyncFolder
change_at (suc (suc (suc (suc (suc zero))))) = Some ReplaceSnapshot
change_at (suc (suc (suc (suc (suc (suc zero)))))) = Some SyncSnapshot
change_at (suc (suc (suc (suc (suc (suc (suc zero))))))) = Some WriteSnapshot
change_at _ = None

pub at_change : (step : FileStep) → change_at (begin_steps_left (Change step)) ≡ Some step
at_change WriteSnapshot = refl
at_change SyncSnapshot = refl
at_change ReplaceSnapshot = refl
at_change SyncFolder = refl
at_change RemoveJournal = refl
at_change BeginJournal = refl
at_change SyncJournal = refl

pub not_passed : (until due : FileStep) (stage : BeginStage) → Some until ≢ Some due → begin_change stage ≡ Some due
    → begin_steps_left (Change until) ≤ begin_steps_left stage → begin_steps_left (Change until) ≤ begin_steps_left stage - 1
not_passed until due (Change next) differs is le =
    let less : begin_steps_left (Change until) < begin_steps_left (Change next) =
    lt_of_le-ne le (λ same. differs (sym (at_change until) ∙ ap change_at same ∙ at_change next ∙ is)) in omega (arith, less)
not_passed until due stages.TheVariants.LoadAndSave differs is le = absurd (never is)
not_passed until due stages.TheVariants.Load differs is le = absurd (never is)
not_passed until due stages.TheVariants.Done differs is le = absurd (never is)
not_passed until due stages.TheVariants.Failed differs is le = absurd (never is)
