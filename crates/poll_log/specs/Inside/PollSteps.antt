-- Steps of reading polls
use Rattle.std.specs.Prelude.{◌≡◌, ℕ, ◌==◌, ◌++◌, ◌∷◌, List, Bool, not, Option, Some, None, ⊤}
use Rattle.std.specs.Prelude.{slice_get, Result, Ok, Err, length}
use Rattle.std.specs.List.{AllPass, AllZip}
use Rattle.byte_lines.specs.Lines.{Lines, lines_of}
use Rattle.poll_log.specs.Polling.{RecordsPoll, Poll, PollStatus, polled_domains, log_of}
use Rattle.poll_log.specs.PollLines.{HasMoment, SaysPoll, SaysLine, SaysNoMoment, SaysNoPoll}
use Rattle.poll_log.specs.PollLines.{SaidPoll, poll_of}
use Rattle.poll_log.specs.declared.poll_lines.PollFields.{PollFields}
use Rattle.poll_log.specs.declared.error.PollError.{PollError}
use Rattle.poll_log.specs.declared.error.PollError.TheVariants.{BadLine, BadMoment}

abbrev pub is_no_space : ℕ → Bool
is_no_space b = not (b == 32)

-- `word` comes before the first space of the text, and `rest` after it
pub record IsWord (text word rest : List ℕ) : Type 0 where
  pub whole : text ≡ word ++ (32 ∷ rest)
  pub plain : AllPass is_no_space word

-- the line says of these parts
pub record SaysFields (domains : List (List ℕ)) (text : List ℕ) (parts : PollFields) : Type 0 where
  pub said : SaidPoll
  pub says : SaysLine domains text said
  pub place : slice_get domains parts.place ≡ Some said.domain
  pub ok : parts.ok ≡ said.ok
  pub seconds : parts.seconds ≡ said.seconds

-- the poll that the line says was recorded
pub record AddsLine (old : List PollStatus) (text : List ℕ) (new : List PollStatus) : Type 0 where
  pub said : SaidPoll
  pub says : SaysLine (polled_domains old) text said
  pub moment : HasMoment said
  pub adds : RecordsPoll old (poll_of said) new

abbrev pub RecordsLine : List PollStatus → List ℕ → ℕ → List PollStatus
    → Result (Unit {0}) PollError → Type 0
RecordsLine old text number new (Ok done) = AddsLine old text new
RecordsLine old text number new (Err (BadLine n)) = (n ≡ number)
    × SaysNoPoll (polled_domains old) text
RecordsLine old text number new (Err (BadMoment n)) = (n ≡ number)
    × SaysNoMoment (polled_domains old) text
RecordsLine old text number new (Err _) = ⊥

-- These are the lines so far, which say these polls, and those that are left.
pub record ReadLines (domains : List (List ℕ)) (all left : Lines) (polls : List Poll)
    (number : ℕ) : Type 0 where
  pub front : List (List ℕ)
  pub say : AllZip (SaysPoll domains) front polls
  pub whole : all.whole ≡ front ++ left.whole
  pub rest : all.rest ≡ left.rest
  pub counted : number ≡ length front

abbrev pub ReadTo : List (List ℕ) → Option (List ℕ) → Option (List ℕ) → List Poll → ℕ → Type 0
ReadTo domains None new polls number = ⊤
ReadTo domains (Some xs) None polls number = ⊥
ReadTo domains (Some xs) (Some ys) polls number = ReadLines domains (lines_of xs) (lines_of ys)
    polls number

-- the log is that of the polls so far, which this many lines said
pub record HasRead (domains : List (List ℕ)) (old new : Option (List ℕ)) (log : List PollStatus)
    (number : ℕ) : Type 0 where
  pub polls : List Poll
  pub is : log ≡ log_of domains polls
  pub lines : ReadTo domains old new polls number
