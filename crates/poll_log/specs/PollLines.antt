-- Polls as lines of a text
use Rattle.std.specs.Prelude.{◌≡◌, ℕ, ◌+◌, ◌⊎◌, ⊤, ℤ, Bool, true, false, List, [], ◌∷◌, ◌++◌}
use Rattle.std.specs.Prelude.{length, codes, Contains, FitsSigned, Option, Some, None}
use Rattle.std.specs.Int.{w64}
use Rattle.std.specs.Fmt.{signed_decimal}
use Rattle.std.specs.List.{AllZip}
use Rattle.jiff.specs.Words.{IsTimestampNanos, nanos_of_seconds}
use Rattle.byte_lines.specs.Lines.{Lines, lines_of}
use Rattle.poll_log.specs.Polling.{Poll, PollStatus, log_of}
use Rattle.poll_log.specs.declared.error.PollError.{PollError}
use Rattle.poll_log.specs.declared.error.PollError.TheVariants.{NoMemory}
use Rattle.poll_log.specs.declared.error.PollError.TheVariants.{BadLine, BadMoment, Io}

-- ---- a time

-- the text is that of a number of seconds within 64 signed bits, in decimal: so with neither a plus
-- nor a needless zero
abbrev pub ReadsSeconds : List ℕ → Option ℤ → Type 0
ReadsSeconds text None = (n : ℤ) → FitsSigned w64 n → text ≡ signed_decimal n → ⊥
ReadsSeconds text (Some n) = (text ≡ signed_decimal n) × FitsSigned w64 n

-- ---- a line

-- a poll as it is written: its time in seconds since the Unix epoch
pub record SaidPoll : Type 0 where
  pub domain : List ℕ
  pub ok : Bool
  pub seconds : ℤ

abbrev pub outcome_text : Bool → List ℕ
outcome_text true = codes "ok"
outcome_text false = codes "fail"

-- with single spaces
abbrev pub line_text : SaidPoll → List ℕ
line_text t = t.domain ++
    (codes " " ++ (outcome_text t.ok ++ (codes " " ++ signed_decimal t.seconds)))

-- the line says this of one of these domains, and the seconds are within 64 bits
pub record SaysLine (domains : List (List ℕ)) (text : List ℕ) (t : SaidPoll) : Type 0 where
  pub is : text ≡ line_text t
  pub within : FitsSigned w64 t.seconds
  pub known : Contains domains t.domain

-- the time is within the range of times
abbrev pub HasMoment : SaidPoll → Type 0
HasMoment t = IsTimestampNanos (nanos_of_seconds t.seconds)

abbrev pub poll_of : SaidPoll → Poll
poll_of t = record { domain = t.domain; moment = nanos_of_seconds t.seconds; ok = t.ok }

-- the line says this poll
pub record SaysPoll (domains : List (List ℕ)) (text : List ℕ) (p : Poll) : Type 0 where
  pub said : SaidPoll
  pub says : SaysLine domains text said
  pub moment : HasMoment said
  pub is : p ≡ poll_of said

-- it says of no poll
abbrev pub SaysNoPoll : List (List ℕ) → List ℕ → Type 0
SaysNoPoll domains text = (t : SaidPoll) → SaysLine domains text t → ⊥

-- it says of a poll at a time outside the range
pub record SaysNoMoment (domains : List (List ℕ)) (text : List ℕ) : Type 0 where
  pub said : SaidPoll
  pub says : SaysLine domains text said
  pub past : HasMoment said → ⊥

-- ---- all lines

-- each line says a poll, nothing follows the last line, and the log is that of these polls in their
-- order
pub record IsLogOf (domains : List (List ℕ)) (bytes : List ℕ) (log : List PollStatus) : Type 0 where
  pub polls : List Poll
  pub say : AllZip (SaysPoll domains) (lines_of bytes).whole polls
  pub ended : (lines_of bytes).rest ≡ []
  pub is : log ≡ log_of domains polls

-- The line with this number, counted from 1, has the error, and each before it says a poll.
pub record FirstBad (domains : List (List ℕ)) (lines : List (List ℕ)) (number : ℕ)
    (Fault : List ℕ → Type 0) : Type 0 where
  pub front : List (List ℕ)
  pub polls : List Poll
  pub say : AllZip (SaysPoll domains) front polls
  pub text : List ℕ
  pub later : List (List ℕ)
  pub whole : lines ≡ front ++ text ∷ later
  pub bad : Fault text
  pub counted : number ≡ length front + 1

-- Each line says a poll, and bytes follow the last one's line feed: these would be the line with
-- this number.
pub record IsCut (domains : List (List ℕ)) (lines : Lines) (number : ℕ) : Type 0 where
  pub polls : List Poll
  pub say : AllZip (SaysPoll domains) lines.whole polls
  pub more : lines.rest ≡ [] → ⊥
  pub counted : number ≡ length lines.whole + 1

-- the first error for which the bytes give no log; that memory ran out or that the source failed
-- says nothing of them
abbrev pub RefusesPolls : List (List ℕ) → List ℕ → PollError → Type 0
RefusesPolls domains bytes (BadLine n) = FirstBad domains (lines_of bytes).whole n
    (SaysNoPoll domains) ⊎ IsCut domains (lines_of bytes) n
RefusesPolls domains bytes (BadMoment n) = FirstBad domains (lines_of bytes).whole n
    (SaysNoMoment domains)
RefusesPolls domains bytes NoMemory = ⊤
RefusesPolls domains bytes Io = ⊤
RefusesPolls domains bytes _ = ⊥
