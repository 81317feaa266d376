-- How one piece of an answer is taken.
use Rattle.std.specs.Prelude.{◌≡◌, ℕ, ◌⊎◌, Bool, true, false, List, [], ◌++◌, length, Some}
use Rattle.fed_config.specs.Configuration.{Configuration}
use Rattle.byte_lines.specs.Lines.{HasNoFeed}
use Rattle.replica_core.specs.declared.error.SyncError.{SyncError}
use Rattle.replica_core.specs.declared.error.SyncError.TheVariants.{NoMemory}
use Rattle.replica_texts.specs.SoleLines.{written_header}
use Rattle.replica_sync.specs.Pieces.{EndsLine, Continues, kept_part, piece_run}
use Rattle.bucket_sums.specs.Lines.{IsMarksLine}
use Rattle.bucket_sums.specs.Questions.{RefusesLineOf, RefusesText, longest_line}
use Rattle.bucket_sums.specs.Asking.{IsLineOfMarks}
use Rattle.bucket_sums.specs.declared.answer_part.AnswerPart.{AnswerPart}
use Rattle.bucket_sums.specs.declared.sums_asking.SumsAsking.{SumsAsking}

-- The first line of the answer came.
pub record TakesFirstOfAnswer (config : Configuration) (old : AnswerPart) (text : List ℕ)
    (new : AnswerPart) : Type 0 where
  pub is : text ≡ written_header config
  pub begun : new.is_begun ≡ true
  pub same : new.marks ≡ old.marks

-- The marks came.
pub record TakesMarks (text : List ℕ) (new : AnswerPart) : Type 0 where
  pub marks : List Bool
  pub is : IsMarksLine text marks
  pub now : new.marks ≡ Some marks

-- what the next line does
abbrev pub TakesAnswerWhere : Bool → Configuration → AnswerPart → List ℕ → AnswerPart → Type 0
TakesAnswerWhere false config old text new = TakesFirstOfAnswer config old text new
TakesAnswerWhere true config old text new = TakesMarks text new

abbrev pub TakesLineOfAnswer : Configuration → AnswerPart → List ℕ → AnswerPart → Type 0
TakesLineOfAnswer config old text new = TakesAnswerWhere old.is_begun config old text new

-- why it is not taken
abbrev pub RefusesLineOfAnswer : Configuration → AnswerPart → List ℕ → SyncError → Type 0
RefusesLineOfAnswer config answer text e = (e ≡ NoMemory)
    ⊎ RefusesLineOf IsLineOfMarks config answer.is_begun 0 text e

-- No line ended.
pub record ContinuesInAnswer (old : SumsAsking) (piece : List ℕ) (used : ℕ)
    (new : SumsAsking) : Type 0 where
  pub goes : Continues (piece_run longest_line (kept_part old.part) piece) (kept_part new.part)
  pub all : used ≡ length piece
  pub same : new.answer ≡ old.answer

-- A line ended, and is taken.
pub record EndsLineOfAnswer (config : Configuration) (old : SumsAsking) (piece : List ℕ) (used : ℕ)
    (new : SumsAsking) : Type 0 where
  pub text : List ℕ
  pub ends : EndsLine (piece_run longest_line (kept_part old.part) piece) used text
  pub kept : kept_part new.part ≡ []
  pub takes : TakesLineOfAnswer config old.answer text new.answer

abbrev pub StepsAnswer : Configuration → SumsAsking → List ℕ → ℕ → SumsAsking → Type 0
StepsAnswer config old piece used new = ContinuesInAnswer old piece used new
    ⊎ EndsLineOfAnswer config old piece used new

-- A line is not taken: this text, the line or a beginning of it, has the error.
pub record FailsAnswer (config : Configuration) (old : SumsAsking) (piece : List ℕ)
    (e : SyncError) : Type 0 where
  pub text : List ℕ
  pub plain : HasNoFeed text
  pub rest : List ℕ
  pub bytes : kept_part old.part ++ piece ≡ text ++ rest
  pub cause : RefusesText IsLineOfMarks config old.answer.is_begun 0 text rest e
