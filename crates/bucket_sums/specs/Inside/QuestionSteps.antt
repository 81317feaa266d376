-- How one piece of a question is taken.
use Rattle.std.specs.Prelude.{◌≡◌, ℕ, ◌⊎◌, Bool, true, false, List, [], ◌++◌, length}
use Rattle.fed_config.specs.Configuration.{Configuration}
use Rattle.byte_lines.specs.Lines.{HasNoFeed}
use Rattle.replica_core.specs.declared.error.SyncError.{SyncError}
use Rattle.replica_core.specs.declared.error.SyncError.TheVariants.{NoMemory}
use Rattle.replica_texts.specs.SoleLines.{written_header}
use Rattle.replica_sync.specs.Pieces.{EndsLine, Continues, kept_part, piece_run}
use Rattle.bucket_sums.specs.Lines.{IsSumLine}
use Rattle.bucket_sums.specs.Questions.{RefusesLineOf, RefusesText, longest_line}
use Rattle.bucket_sums.specs.Inside.Comparing.{IsCompared, marks_so_far}
use Rattle.bucket_sums.specs.declared.question_lines.QuestionLines.{QuestionLines}
use Rattle.bucket_sums.specs.declared.sums_serving.SumsServing.{SumsServing}

-- The first line came.
pub record TakesFirst (config : Configuration) (old : QuestionLines) (text : List ℕ)
    (new : QuestionLines) : Type 0 where
  pub is : text ≡ written_header config
  pub begun : new.is_begun ≡ true
  pub same : new.sums ≡ old.sums

-- The line of a sum came.
pub record TakesSum (old : QuestionLines) (text : List ℕ) (new : QuestionLines) : Type 0 where
  pub begun : new.is_begun ≡ true
  pub compared : IsCompared old.sums text new.sums

-- what the next line does
abbrev pub TakesLineWhere : Bool → Configuration → QuestionLines → List ℕ → QuestionLines → Type 0
TakesLineWhere false config old text new = TakesFirst config old text new
TakesLineWhere true config old text new = TakesSum old text new

abbrev pub TakesQuestionLine : Configuration → QuestionLines → List ℕ → QuestionLines → Type 0
TakesQuestionLine config old text new = TakesLineWhere old.is_begun config old text new

-- why it is not taken
abbrev pub RefusesQuestionLine : Configuration → QuestionLines → List ℕ → SyncError → Type 0
RefusesQuestionLine config lines text e = (e ≡ NoMemory)
    ⊎ RefusesLineOf IsSumLine config lines.is_begun (length (marks_so_far lines.sums)) text e

-- No line ended.
pub record ContinuesInQuestion (old : SumsServing) (piece : List ℕ) (used : ℕ)
    (new : SumsServing) : Type 0 where
  pub goes : Continues (piece_run longest_line (kept_part old.part) piece) (kept_part new.part)
  pub all : used ≡ length piece
  pub same : new.question ≡ old.question

-- A line ended, and is taken.
pub record EndsQuestionLine (config : Configuration) (old : SumsServing) (piece : List ℕ)
    (used : ℕ) (new : SumsServing) : Type 0 where
  pub text : List ℕ
  pub ends : EndsLine (piece_run longest_line (kept_part old.part) piece) used text
  pub kept : kept_part new.part ≡ []
  pub takes : TakesQuestionLine config old.question text new.question

abbrev pub StepsQuestion : Configuration → SumsServing → List ℕ → ℕ → SumsServing → Type 0
StepsQuestion config old piece used new = ContinuesInQuestion old piece used new
    ⊎ EndsQuestionLine config old piece used new

-- A line is not taken: this text, the line or a beginning of it, has the error.
pub record FailsQuestion (config : Configuration) (old : SumsServing) (piece : List ℕ)
    (e : SyncError) : Type 0 where
  pub text : List ℕ
  pub plain : HasNoFeed text
  pub rest : List ℕ
  pub bytes : kept_part old.part ++ piece ≡ text ++ rest
  pub cause : RefusesText IsSumLine config old.question.is_begun
      (length (marks_so_far old.question.sums)) text rest e
