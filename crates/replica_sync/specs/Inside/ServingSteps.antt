-- How one piece of a session that serves is taken.
use Rattle.std.specs.Prelude.{◌≡◌, ℕ, ◌⊎◌, ◌++◌, ◌∷◌, List, [], length, Some}
use Rattle.receipt_core.specs.Acceptance.{Meaning}
use Rattle.byte_lines.specs.Limits.{line_limit}
use Rattle.replica_core.specs.Session.{HaveMessage, give_of}
use Rattle.replica_core.specs.declared.error.SyncError.{SyncError}
use Rattle.replica_texts.specs.Messages.{as_any_have, any_have_text, give_text}
use Rattle.replica_texts.specs.Haves.{IsHaveOf, RefusesFurther}
use Rattle.replica_texts.specs.SoleLines.{IsHaveLine}
use Rattle.replica_sync.specs.Pieces.{EndsLine, Continues, piece_run}
use Rattle.replica_sync.specs.declared.text_sink.TextSink.{TextSink}

abbrev pub text_in : TextSink → List ℕ
text_in sink = sink.text.items

-- It is the line of a have, and this is the answer.
pub record AnswersLine (m : Meaning) (text answer : List ℕ) : Type 0 where
  pub have : HaveMessage
  pub line : IsHaveLine m.config text have
  pub is : answer ≡ give_text (give_of m have)

-- No have ended, and nothing is to be written.
pub record ContinuesWithHave (old piece : List ℕ) (used : ℕ) (new answer : List ℕ) : Type 0 where
  pub goes : Continues (piece_run line_limit old piece) new
  pub all : used ≡ length piece
  pub none : answer ≡ []

-- A have ended, and its answer is to be written.
pub record EndsHave (m : Meaning) (old piece : List ℕ) (used : ℕ)
    (new answer : List ℕ) : Type 0 where
  pub have : HaveMessage
  pub own : IsHaveOf m.config have
  pub ends : EndsLine (piece_run line_limit old piece) used (any_have_text (as_any_have have))
  pub kept : new ≡ []
  pub is : answer ≡ give_text (give_of m have)

-- what is taken of a piece after `old` was kept
abbrev pub TakesHave : Meaning → List ℕ → List ℕ → ℕ → List ℕ → List ℕ → Type 0
TakesHave m old piece used new answer = ContinuesWithHave old piece used new answer
    ⊎ EndsHave m old piece used new answer

-- why the have that it continues is not answered
abbrev pub RefusesPiece : Meaning → List ℕ → List ℕ → SyncError → Type 0
RefusesPiece m old piece e = (more after : List ℕ)
    → RefusesFurther m.config (Some ((old ++ piece) ++ (more ++ (10 ∷ after)))) e
