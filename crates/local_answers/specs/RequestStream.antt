-- The requests of a stream of bytes, one after another: each is a first line and its input.
use Rattle.std.specs.Prelude.{◌≡◌, ◌⊎◌, ℕ, ◌<◌, ◌≤◌, ◌++◌, [], ◌∷◌, ⊤, List, length}
use Rattle.byte_lines.specs.Lines.{HasNoFeed}
use Rattle.request_lines.specs.RequestLines.{IsOfWords, IsRequestLine, RefusesInput, RefusesLine}
use Rattle.request_lines.specs.RequestLines.{SaysWords, request_limit}
use Rattle.request_lines.specs.declared.request_error.RequestError.TheVariants.{BadLine}
use Rattle.request_lines.specs.declared.request_line.InputEnd.{InputEnd}
use Rattle.request_lines.specs.declared.request_line.InputEnd.TheVariants.{Bytes, Stream}
use Rattle.replica_sync.specs.Pieces.{IsOverlong}
use Rattle.local_answers.specs.declared.request_fault.RequestFault.{RequestFault}
use Rattle.local_answers.specs.declared.request_fault.RequestFault.TheVariants.{WordsTooLong}
use Rattle.local_answers.specs.declared.request_fault.RequestFault.TheVariants.{InputTooLong}
use Rattle.local_answers.specs.declared.request_fault.RequestFault.TheVariants.{BadWords, NoWords}
use Rattle.local_answers.specs.declared.request_fault.RequestFault.TheVariants.{NoMemory}
use Rattle.local_answers.specs.declared.request_parts.StreamState.{StreamState}
use Rattle.local_answers.specs.declared.request_parts.StreamState.TheVariants.{Ended, Open}

-- the most bytes of input
abbrev pub input_limit : ℕ
input_limit = 268435456

-- The bytes are a line, its line feed, and what comes after it. A line has no line feed, so there
-- is at most one such split.
pub record SplitsInto (bytes line after : List ℕ) : Type 0 where
  pub parts : bytes ≡ line ++ 10 ∷ after
  pub plain : HasNoFeed line

-- ---- a whole request

-- After the line these bytes are the input, which ends so, and those follow.
abbrev pub EndsInput : StreamState → InputEnd → (input rest : List ℕ) → Type 0
EndsInput state (Bytes n) input rest = length input ≡ n
EndsInput Ended Stream input rest = rest ≡ []
EndsInput Open Stream input rest = ⊥

-- the parts of a request, its arguments as they came, and what follows it
pub record FirstParts : Type 0 where
  pub line : List ℕ
  pub words : List ℕ
  pub end : InputEnd
  pub input : List ℕ
  pub rest : List ℕ

-- The bytes begin with a request of these parts, and each is within its limit.
pub record HasFirst (state : StreamState) (bytes : List ℕ) (first : FirstParts) : Type 0 where
  pub split : SplitsInto bytes first.line (first.input ++ first.rest)
  pub says : IsRequestLine first.line first.words first.end
  pub ends : EndsInput state first.end first.input first.rest
  pub small : length first.input ≤ input_limit

-- what is asked for
pub record Asking : Type 0 where
  pub words : List (List ℕ)
  pub input : List ℕ

abbrev pub first_parts : (line words : List ℕ) → InputEnd → Asking → (rest : List ℕ) → FirstParts
first_parts line words end asking rest =
    record { line = line; words = words; end = end; input = asking.input; rest = rest }

-- The bytes begin with a request that asks for this, and that follows it.
pub record GivesFirst (state : StreamState) (bytes : List ℕ) (asking : Asking) (rest : List ℕ)
    : Type 0 where
  pub line : List ℕ
  pub words : List ℕ
  pub end : InputEnd
  pub first : HasFirst state bytes (first_parts line words end asking rest)
  pub says : SaysWords words asking.words

-- The bytes are requests that ask for these one after another, whatever comes later, and then that.
abbrev pub GivesAll : List ℕ → List Asking → (rest : List ℕ) → Type 0
GivesAll bytes [] rest = bytes ≡ rest
GivesAll bytes (asking ∷ others) rest =
    (more : List ℕ) × GivesFirst Open bytes asking more × GivesAll more others rest

-- ---- a request that is not whole

-- Input that ends so lacks a byte, or may have another.
abbrev pub LacksInput : StreamState → InputEnd → (came : ℕ) → Type 0
LacksInput state (Bytes n) came = (n ≤ input_limit) × (came < n)
LacksInput Open Stream came = came ≤ input_limit
LacksInput Ended Stream came = ⊥

-- The first line came, and the input is not whole.
pub record IsAmidInput (state : StreamState) (bytes : List ℕ) : Type 0 where
  pub line : List ℕ
  pub after : List ℕ
  pub split : SplitsInto bytes line after
  pub words : List ℕ
  pub end : InputEnd
  pub says : IsRequestLine line words end
  pub lacks : LacksInput state end (length after)

-- The first line has not come, and is not too long.
pub record IsAmidLine (bytes : List ℕ) : Type 0 where
  pub plain : HasNoFeed bytes
  pub short : length bytes ≤ request_limit

-- The bytes are within the limits, and not a whole request.
abbrev pub LacksBytes : StreamState → List ℕ → Type 0
LacksBytes state bytes = IsAmidLine bytes ⊎ IsAmidInput state bytes

-- More bytes are to come.
abbrev pub AwaitsBytes : StreamState → List ℕ → Type 0
AwaitsBytes Open bytes = LacksBytes Open bytes
AwaitsBytes Ended bytes = ⊥

-- ---- what is refused

-- More comes, or is to come, than input may have.
abbrev pub PassesInput : InputEnd → (came : ℕ) → Type 0
PassesInput (Bytes n) came = input_limit < n
PassesInput Stream came = input_limit < came

pub record HasLongInput (bytes : List ℕ) : Type 0 where
  pub line : List ℕ
  pub after : List ℕ
  pub split : SplitsInto bytes line after
  pub words : List ℕ
  pub end : InputEnd
  pub says : IsRequestLine line words end
  pub long : PassesInput end (length after)

-- The first line is refused.
pub record BeginsBadly (bytes : List ℕ) : Type 0 where
  pub line : List ℕ
  pub after : List ℕ
  pub split : SplitsInto bytes line after
  pub refused : RefusesInput line BadLine

-- The first request is whole, and its arguments are refused.
pub record HasBadWords (state : StreamState) (bytes : List ℕ) : Type 0 where
  pub parts : FirstParts
  pub first : HasFirst state bytes parts
  pub refused : RefusesLine IsOfWords parts.words BadLine

-- why no request is given
abbrev pub GivesNoRequest : StreamState → List ℕ → RequestFault → Type 0
GivesNoRequest state bytes WordsTooLong = IsOverlong request_limit bytes
GivesNoRequest state bytes InputTooLong = HasLongInput bytes
GivesNoRequest state bytes BadWords = BeginsBadly bytes ⊎ HasBadWords state bytes
GivesNoRequest state bytes NoMemory = ⊤
GivesNoRequest Ended bytes NoWords = LacksBytes Ended bytes
GivesNoRequest state bytes fault = ⊥
