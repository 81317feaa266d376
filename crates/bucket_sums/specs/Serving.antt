-- A question that comes in pieces.
use Rattle.std.specs.Prelude.{◌≡◌, ℕ, ◌<◌, ◌≤◌, ◌⊎◌, Bool, false, List, [], ◌++◌, length}
use Rattle.std.specs.Prelude.{Option, None, Some, Result, Ok, Err, take}
use Rattle.std.specs.List.{AllByRecursion}
use Rattle.fed_config.specs.Configuration.{Configuration}
use Rattle.replica_core.specs.declared.error.SyncError.{SyncError}
use Rattle.replica_texts.specs.Snapshots.{text_of_lines}
use Rattle.replica_sync.specs.Pieces.{kept_part}
use Rattle.replica_sync.specs.PullSessions.{EndsInFeed}
use Rattle.bucket_sums.specs.Lines.{IsSumLine, differences, part_count}
use Rattle.bucket_sums.specs.Questions.{StopsAtLine, headed}
use Rattle.bucket_sums.specs.declared.question_lines.QuestionLines.{QuestionLines}
use Rattle.bucket_sums.specs.declared.sums_serving.SumsServing.{SumsServing}

-- the sums with which it compares
abbrev pub own_sums_of : SumsServing → List (List ℕ)
own_sums_of serving = serving.question.sums.own

-- a mark for each line of a sum that came
abbrev pub marks_made : SumsServing → List Bool
marks_made serving = serving.question.sums.marks.items

abbrev pub fault_of_question : SumsServing → Option SyncError
fault_of_question serving = serving.fault

-- the question has ended
abbrev pub HasAsked : SumsServing → Type 0
HasAsked serving = length (marks_made serving) ≡ part_count

-- These lines of the question came, and a beginning of the next one is kept. Each mark says whether
-- its line is that of another sum.
pub record HasQuestionPart (config : Configuration) (question : QuestionLines)
    (kept came : List ℕ) : Type 0 where
  pub lines : List (List ℕ)
  pub each : AllByRecursion IsSumLine lines
  pub few : length lines ≤ part_count
  pub none : question.is_begun ≡ false → lines ≡ []
  pub bytes : came ≡ text_of_lines (headed config question.is_begun lines) ++ kept
  pub marks : question.sums.marks.items ≡ differences lines question.sums.own
  pub whole : length question.sums.marks.items ≡ part_count → kept ≡ []

abbrev pub TakesQuestion : Option SyncError → Configuration → QuestionLines → List ℕ → List ℕ
    → Type 0
TakesQuestion None config question kept came = HasQuestionPart config question kept came
TakesQuestion (Some e) config question kept came = StopsAtLine IsSumLine config came e

-- these bytes of the question came, wherever they were cut
abbrev pub HasTakenQuestion : Configuration → SumsServing → List ℕ → Type 0
HasTakenQuestion config serving came = TakesQuestion (fault_of_question serving) config
    serving.question (kept_part serving.part) came

-- This many bytes of the piece are taken: all of them; or those up to the end of a line, so some;
-- or no more, since this is so.
abbrev pub TakesToLine : Type 0 → List ℕ → ℕ → Type 0
TakesToLine Ended piece used = used < length piece → EndsInFeed (take used piece) ⊎ Ended

-- the bytes that a call took; or all of the piece, if it failed
abbrev pub bytes_taken : List ℕ → Result ℕ SyncError → List ℕ
bytes_taken piece (Ok used) = take used piece
bytes_taken piece (Err e) = piece
