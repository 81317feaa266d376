-- A session in which haves are answered that come in pieces.
use Rattle.std.specs.Prelude.{◌≡◌, ℕ, List, [], ◌∷◌, ◌++◌, map, fold, flat_map, take, drop, Option}
use Rattle.std.specs.Prelude.{None, Some, Result, Ok, Err}
use Rattle.std.specs.List.{AllByRecursion}
use Rattle.receipt_core.specs.Acceptance.{Meaning}
use Rattle.byte_lines.specs.Lines.{lines_of}
use Rattle.replica_core.specs.Session.{HaveMessage, give_of}
use Rattle.replica_core.specs.declared.error.SyncError.{SyncError}
use Rattle.replica_texts.specs.Messages.{as_any_have, any_have_text, give_text}
use Rattle.replica_texts.specs.Haves.{IsHaveOf, RefusesFurther}
use Rattle.replica_sync.specs.Pieces.{PieceRun, kept_part}
use Rattle.replica_sync.specs.Inside.ServingSteps.{TakesHave}
use Rattle.replica_sync.specs.declared.answer_records.AnswerRecords.{AnswerRecords}
use Rattle.replica_sync.specs.declared.piece_serving.Serving.{Serving}

-- ---- what came

-- bytes that came together, and what was held then
pub record Came : Type 0 where
  pub bytes : List ℕ
  pub held : Meaning

abbrev pub bytes_came : List Came → List ℕ
bytes_came came = flat_map (λ (c : Came). c.bytes) came

-- While they came this was held.
abbrev pub IsStill : Meaning → List Came → Type 0
IsStill m came = AllByRecursion (λ (c : Came). c.held ≡ m) came

-- a whole line, and what was held when its line feed came
pub record HeldLine : Type 0 where
  pub text : List ℕ
  pub held : Meaning

-- the whole lines, and the beginning of the next one
pub record CameLines : Type 0 where
  pub lines : List HeldLine
  pub rest : List ℕ

abbrev pub with_held : Meaning → List ℕ → HeldLine
with_held held text = record { text = text; held = held }

-- with more bytes
abbrev pub lines_with : CameLines → Came → CameLines
lines_with before came = record {
  lines = before.lines ++ map (with_held came.held) (lines_of (before.rest ++ came.bytes)).whole;
  rest = (lines_of (before.rest ++ came.bytes)).rest;
}

abbrev pub lines_came : List Came → CameLines
lines_came came = fold lines_with (record { lines = []; rest = [] }) came

-- ---- what is answered

-- a have, and what was held when its last byte came
pub record HaveAndHeld : Type 0 where
  pub have : HaveMessage
  pub held : Meaning

abbrev pub line_of_have : HaveAndHeld → HeldLine
line_of_have a = with_held a.held (any_have_text (as_any_have a.have))

-- it is of the configuration
abbrev pub IsOwnHave : HaveAndHeld → Type 0
IsOwnHave a = IsHaveOf a.held.config a.have

-- the answers, each made of what was held when its have's last byte came
abbrev pub gives_in_turn : List HaveAndHeld → List ℕ
gives_in_turn asked = flat_map
    (λ (a : HaveAndHeld). give_text (give_of a.held a.have)) asked

-- The whole lines are haves of the configuration, `rest` follows them, and the output is the
-- answers to them, in order.
pub record AnswersAll (came : List Came) (rest output : List ℕ) : Type 0 where
  pub asked : List HaveAndHeld
  pub each : AllByRecursion IsOwnHave asked
  pub lines : lines_came came ≡ record { lines = map line_of_have asked; rest = rest }
  pub written : output ≡ gives_in_turn asked

-- The haves before the first error are answered, and nothing else. It is the error that ends a
-- session which serves this stream, as soon as a line feed comes.
pub record AnswersUpTo (came : List Came) (output : List ℕ) (e : SyncError) : Type 0 where
  pub before : List Came
  pub last : Came
  pub later : List Came
  pub order : came ≡ before ++ last ∷ later
  pub rest : List ℕ
  pub answers : AnswersAll before rest output
  pub cause : (more after : List ℕ) → RefusesFurther last.held.config
      (Some ((rest ++ last.bytes) ++ (more ++ (10 ∷ after)))) e

-- ---- the machine

-- the beginning of a have that has not ended
abbrev pub kept_have : Serving → List ℕ
kept_have serving = kept_part serving.part

-- what is to be written next
abbrev pub due_give : Serving → List ℕ
due_give serving = drop serving.written serving.answer.items

abbrev pub fault_of_serving : Serving → Option SyncError
fault_of_serving serving = serving.fault

abbrev pub ServesPieces : Option SyncError → List Came → List ℕ → List ℕ → Type 0
ServesPieces None came rest output = AnswersAll came rest output
ServesPieces (Some e) came rest output = AnswersUpTo came output e

-- These came, and this was written: with what is to be written next it is all that is answered.
abbrev pub HasServedPieces : Serving → List Came → List ℕ → Type 0
HasServedPieces serving came written = ServesPieces (fault_of_serving serving) came
    (kept_have serving) (written ++ due_give serving)

-- What is taken of a piece if nothing is to be written: all of it, and no have ends in it; or the
-- bytes up to the end of a have, whose answer is then to be written.
abbrev pub TakesUpToHave : Meaning → PieceRun → ℕ → Serving → Type 0
TakesUpToHave m run used new = TakesHave m run.old run.piece used (kept_have new) (due_give new)

-- which records the next answer has
abbrev pub records_answered : Serving → AnswerRecords
records_answered serving = serving.records

-- what came by a call: the bytes that it took; or all, if there is an error among them
abbrev pub came_taken : List ℕ → Meaning → Result ℕ SyncError → Came
came_taken piece held (Ok used) = record { bytes = take used piece; held = held }
came_taken piece held (Err e) = record { bytes = piece; held = held }
