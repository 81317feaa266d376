-- Steps that were tried on files, and what may be there after them.
use Rattle.std.specs.Prelude.{◌≡◌, ◌++◌, ℕ, Bool, true, false, List, [], ◌∷◌, Option, None, Some}
use Rattle.state_steps.specs.Appends.{FailsAppend, after_append}
use Rattle.state_steps.specs.Carries.{CarryDisk, CarryFound, CarryTexts, FailsCarry, IsCarrySafe}
use Rattle.state_steps.specs.Carries.{StopLeaves, after_carry_due}
use Rattle.state_steps.specs.Files.{KeepsLine, StateDisk}
use Rattle.state_steps.specs.Resumes.{FailsResume, after_resume}
use Rattle.state_steps.specs.Shortenings.{FailsShortenStep, after_shorten_step}
use Rattle.state_steps.specs.Steps.{FailsTo, StateTexts, after_step}
use Rattle.state_steps.specs.declared.appending.AppendStep.{AppendStep}
use Rattle.state_steps.specs.declared.appending.AppendStage as append
use Rattle.state_steps.specs.declared.carrying_over.CarryStep.{CarryStep}
use Rattle.state_steps.specs.declared.carrying_over.CarryStage as carry
use Rattle.state_steps.specs.declared.file_step.FileStep.{FileStep}
use Rattle.state_steps.specs.declared.resuming.ResumeStep.{ResumeStep}
use Rattle.state_steps.specs.declared.resuming.ResumeStage as resume
use Rattle.state_steps.specs.declared.shortening.ShortenStep.{ShortenStep}

-- ---- what was tried

-- The step that was due was tried, and this came of it; without one nothing was.
abbrev pub HasTried : {P : Type 0} → Option P → Bool → List (P × Bool) → List (P × Bool) → Type 0
HasTried None done before after = (done ≡ true) × (after ≡ before)
HasTried (Some step) done before after = after ≡ (step, done) ∷ before

-- the step that is due, with these lines
abbrev pub due_with : {P : Type 0} → List ℕ → Option P → Option (P × List ℕ)
due_with lines None = None
due_with lines (Some step) = Some (step, lines)

-- ---- what may be there then

-- These files may be there after these tries, the last first, if there were those before them.
abbrev pub MayBe : {P D : Type 0} → (P × Bool → D → D → Type 0) → List (P × Bool) → D → D → Type 0
MayBe Makes [] first disk = disk ≡ first
MayBe {D = D} Makes (it ∷ before) first disk = (was : D) × MayBe Makes before first was
    × Makes it was disk

-- All files that may be there after these tries are so.
abbrev pub AfterTries : {P D : Type 0} → (P × Bool → D → D → Type 0) → List (P × Bool) → D
    → (D → Type 0) → Type 0
AfterTries {D = D} Makes tries first Are = (disk : D) → MayBe Makes tries first disk → Are disk

-- It holds of these tries, and again after each later one.
abbrev pub AtEach : {P : Type 0} → (List (P × Bool) → Type 0) → List (P × Bool) → List (P × Bool)
    → Type 0
AtEach Holds [] before = Holds before
AtEach Holds (it ∷ later) before = Holds (it ∷ (later ++ before)) × AtEach Holds later before

-- Others followed these tries, and it holds all the time.
abbrev pub HoldsSince : {P : Type 0} → (List (P × Bool) → Type 0) → List (P × Bool)
    → List (P × Bool) → Type 0
HoldsSince {P = P} Holds before after = (later : List (P × Bool)) × (after ≡ later ++ before)
    × AtEach Holds later before

-- Whatever a stop leaves after these tries, the line is kept.
abbrev pub TriesKeep : {P : Type 0} → (P × Bool → StateDisk → StateDisk → Type 0) → StateDisk
    → List ℕ → List (P × Bool) → Type 0
TriesKeep Makes first line tries = AfterTries Makes tries first (λ disk. KeepsLine disk line)

-- ---- what a step makes of the files, if it is done; and else what it may leave of them

abbrev pub MakesFiles : StateTexts → FileStep × Bool → StateDisk → StateDisk → Type 0
MakesFiles texts (step, true) disk left = left ≡ after_step texts step disk
MakesFiles texts (step, false) disk left = FailsTo texts step disk left

-- The new journal has this first line.
abbrev pub MakesShorter : List ℕ → (ShortenStep × List ℕ) × Bool → StateDisk → StateDisk → Type 0
MakesShorter head ((step, lines), true) disk left =
    left ≡ after_shorten_step (head ++ lines) step disk
MakesShorter head ((step, lines), false) disk left =
    FailsShortenStep (head ++ lines) step disk left

-- This is left of the journal that was found.
abbrev pub MakesResumed : List ℕ → ResumeStep × Bool → StateDisk → StateDisk → Type 0
MakesResumed cut (step, true) disk left =
    left ≡ after_resume cut (resume.TheVariants.Due step) disk
MakesResumed cut (step, false) disk left = FailsResume cut (resume.TheVariants.Due step) disk left

abbrev pub MakesAppended : (AppendStep × List ℕ) × Bool → StateDisk → StateDisk → Type 0
MakesAppended ((step, lines), true) disk left =
    left ≡ after_append lines (append.TheVariants.Due step) disk
MakesAppended ((step, lines), false) disk left =
    FailsAppend lines (append.TheVariants.Due step) disk left

abbrev pub MakesCarried : CarryTexts → CarryStep × Bool → CarryDisk → CarryDisk → Type 0
MakesCarried texts (step, true) disk left =
    left ≡ after_carry_due texts (carry.TheVariants.Due step) disk
MakesCarried texts (step, false) disk left =
    FailsCarry texts (carry.TheVariants.Due step) disk left

-- Whatever a stop leaves after these tries of a carry-over, a start finds the line.
abbrev pub TriesStartWith : CarryTexts → CarryDisk → List ℕ → List (CarryStep × Bool) → Type 0
TriesStartWith texts first line tries = AfterTries (MakesCarried texts) tries first
    (λ disk. (found : CarryFound) → StopLeaves disk found → IsCarrySafe texts found line)
