-- What a caller in C reads of a call.
use Rattle.std.specs.Prelude.{◌≡◌, ℕ, ◌<◌, ◌≤◌, ◌⊎◌, ◌++◌, List, length, take, drop, ℤ, pos}
use Rattle.std.specs.Prelude.{negsuc, ◌-ℤ◌, Result, MatchResult}
use Rattle.replica_c_calls.specs.Numbers.{number_of}
use Rattle.replica_c_calls.specs.declared.call_error.CallError.{CallError}
use Rattle.replica_c_calls.specs.declared.call_outcome.CallOutcome.{CallOutcome}

-- the refusal's number, as one below 0
abbrev pub Refuses : CallError → ℤ → Type 0
Refuses e returned = returned ≡ pos 0 -ℤ pos (number_of e)

-- how many bytes a refusal's text has
abbrev pub IsFaultLength : ℕ → Type 0
IsFaultLength n = (0 < n) × (n ≤ 240)

-- A call that returns a number below 0 is refused, and its refusal has a text. Any other has none.
abbrev pub ReportsFault : (returned : ℤ) → (fault_length : ℕ) → Type 0
ReportsFault (negsuc below) fault_length = IsFaultLength fault_length
ReportsFault (pos n) fault_length = fault_length ≡ 0

-- the text of the refusal
abbrev pub fault_text : CallOutcome → List ℕ
fault_text outcome = take outcome.fault_length outcome.fault

-- it was made
abbrev pub ReturnsDone : ℤ → Type 0
ReturnsDone returned = returned ≡ pos 0

-- there is no room for the text
abbrev pub ReturnsNeedsRoom : ℤ → Type 0
ReturnsNeedsRoom returned = returned ≡ pos 1

-- there is nothing of what was asked for
abbrev pub ReturnsNone : ℤ → Type 0
ReturnsNone returned = returned ≡ pos 2

-- it was held already
abbrev pub ReturnsAlready : ℤ → Type 0
ReturnsAlready returned = returned ≡ pos 3

-- the buffer before and after a call, how many bytes it says that the text has, and what it
-- returned
pub record OutRun : Type 0 where
  pub before : List ℕ
  pub after : List ℕ
  pub said : ℕ
  pub returned : ℤ

abbrev pub out_run : (before after : List ℕ) → ℕ → ℤ → OutRun
out_run before after said returned = record {
  before = before;
  after = after;
  said = said;
  returned = returned;
}

-- There is room for the text, which is at the buffer's start.
pub record FitsOut (text : List ℕ) (run : OutRun) : Type 0 where
  pub fits : length text ≤ length run.before
  pub text_is : run.after ≡ text ++ drop (length text) run.before
  pub size : run.said ≡ length text
  pub done : ReturnsDone run.returned

-- There is not, and the buffer is as it was.
pub record OverfillsOut (text : List ℕ) (run : OutRun) : Type 0 where
  pub more : length run.before < length text
  pub same : run.after ≡ run.before
  pub size : run.said ≡ length text
  pub asks : ReturnsNeedsRoom run.returned

abbrev pub WritesOut : List ℕ → OutRun → Type 0
WritesOut text run = FitsOut text run ⊎ OverfillsOut text run

-- There is no text, and the buffer is as it was.
pub record LacksOut (run : OutRun) : Type 0 where
  pub same : run.after ≡ run.before
  pub size : run.said ≡ 0
  pub none : ReturnsNone run.returned

-- The call is refused, and the buffer is as it was.
pub record RefusesOut (e : CallError) (run : OutRun) : Type 0 where
  pub same : run.after ≡ run.before
  pub size : run.said ≡ 0
  pub refused : Refuses e run.returned

-- The call is refused, and counts nothing.
abbrev pub CountsNone : CallError → ℕ → ℤ → Type 0
CountsNone e said returned = (said ≡ 0) × Refuses e returned

-- what is said of a call that counts
abbrev pub Counts : Result ℕ CallError → ℕ → ℤ → Type 0
Counts counted said returned = MatchResult counted (λ n. (said ≡ n) × ReturnsDone returned)
    (λ e. CountsNone e said returned)
