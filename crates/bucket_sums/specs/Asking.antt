-- The answer to a question, which comes in pieces.
use Rattle.std.specs.Prelude.{◌≡◌, ℕ, Bool, List, [], ◌++◌, length, Option, None, Some}
use Rattle.fed_config.specs.Configuration.{Configuration}
use Rattle.replica_core.specs.declared.error.SyncError.{SyncError}
use Rattle.replica_texts.specs.Snapshots.{text_of_lines}
use Rattle.replica_sync.specs.Pieces.{kept_part}
use Rattle.bucket_sums.specs.Lines.{IsMarksLine, part_count}
use Rattle.bucket_sums.specs.Questions.{StopsAtLine, headed, sums_answer}
use Rattle.bucket_sums.specs.declared.answer_part.AnswerPart.{AnswerPart}
use Rattle.bucket_sums.specs.declared.sums_asking.SumsAsking.{SumsAsking}

-- the line of marks of all parts
abbrev pub IsLineOfMarks : List ℕ → Type 0
IsLineOfMarks text = (marks : List Bool) × IsMarksLine text marks

-- the marks, if they came
abbrev pub marks_answered : SumsAsking → Option (List Bool)
marks_answered asking = asking.answer.marks

abbrev pub fault_of_answer : SumsAsking → Option SyncError
fault_of_answer asking = asking.fault

-- All of the answer came, and these are its marks.
pub record HasAnswer (config : Configuration) (marks : List Bool)
    (kept came : List ℕ) : Type 0 where
  pub all : length marks ≡ part_count
  pub nothing : kept ≡ []
  pub bytes : came ≡ sums_answer config marks

-- its first line or a beginning of that came, or all of it
abbrev pub HasAnswerLines : Option (List Bool) → Configuration → Bool → List ℕ → List ℕ → Type 0
HasAnswerLines None config begun kept came = came ≡ text_of_lines (headed config begun []) ++ kept
HasAnswerLines (Some marks) config begun kept came = HasAnswer config marks kept came

abbrev pub TakesAnswer : Option SyncError → Configuration → AnswerPart → List ℕ → List ℕ → Type 0
TakesAnswer None config answer kept came = HasAnswerLines answer.marks config answer.is_begun kept
    came
TakesAnswer (Some e) config answer kept came = StopsAtLine IsLineOfMarks config came e

-- these bytes of the answer came, wherever they were cut
abbrev pub HasTakenAnswer : Configuration → SumsAsking → List ℕ → Type 0
HasTakenAnswer config asking came = TakesAnswer (fault_of_answer asking) config asking.answer
    (kept_part asking.part) came
