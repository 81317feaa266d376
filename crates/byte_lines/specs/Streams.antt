-- What a call over a `LineBuf` says of the stream: the bytes that the buffer keeps, followed by
-- those that the source still has. If the source cannot report them, nothing is said of the stream.
use Rattle.std.specs.Prelude.{◌≡◌, ℕ, ◌+◌, ◌<◌, ◌≤◌, ◌++◌, List, [], length, if◌then◌else◌, Option}
use Rattle.std.specs.Prelude.{Result, IfOk, IsErrOf}
use Rattle.std.specs.Io.KnownBytes.{Keeps, IsAtEnd, prepend_known}
use Rattle.byte_lines.specs.Lines.{HasLine, HasNoLine, HasMore}
use Rattle.byte_lines.specs.Ahead.{ahead_of}
use Rattle.byte_lines.specs.declared.line_buf.LineBuf.{LineBuf}
use Rattle.byte_lines.specs.declared.line_buf.Line.{Line}
use Rattle.byte_lines.specs.declared.line_buf.Line.TheVariants.{Text, TooLong, Cut, End}
use Rattle.byte_lines.specs.declared.error.DeviceError.{DeviceError}
use Rattle.byte_lines.specs.declared.error.DeviceError.TheVariants.{NoMemory}
use Rattle.byte_lines.specs.Limits.{line_limit}

-- what a buffer keeps: the beginning of a line, unless that was handed out, and what it read ahead
abbrev pub kept : LineBuf → List ℕ
kept lines = (if lines.is_given then [] else lines.line.items) ++ ahead_of lines.ahead

abbrev pub stream_of : {S : Type 0} → (S → Option (List ℕ)) → LineBuf → S → Option (List ℕ)
stream_of remaining lines source = prepend_known (kept lines) (remaining source)

-- the stream has at most this many bytes
abbrev pub left_of : {S : Type 0} → (S → ℕ) → LineBuf → S → ℕ
left_of budget lines source = length (kept lines) + budget source

-- this is the first line of the stream `old`, or its rest, and `new` is what follows
abbrev pub FindsLine : Option (List ℕ) → Option (List ℕ) → Line → Type 0
FindsLine old new (Text text) = HasLine old new text.now × (length text.now ≤ line_limit)
FindsLine old new TooLong = ((text : List ℕ) × HasLine old new text × (line_limit < length text))
FindsLine old new Cut = HasNoLine old × HasMore old × IsAtEnd new
FindsLine old new End = IsAtEnd old × IsAtEnd new

-- a buffer and its source together
pub record StreamState : Type 0 where
  -- the stream, if the source can report its bytes
  pub bytes : Option (List ℕ)
  -- the stream has at most this many bytes
  pub bound : ℕ

abbrev pub state_of_stream : {S : Type 0} → (S → Option (List ℕ)) → (S → ℕ) → LineBuf → S
    → StreamState
state_of_stream remaining budget lines source =
    record { bytes = stream_of remaining lines source; bound = left_of budget lines source }

-- what a call of `next_line` does to the stream
pub record TakesLine (old new : StreamState) (result : Result Line DeviceError) : Type 0 where
  -- the line is the first of the stream, and the stream loses it
  pub finds : IfOk result (FindsLine old.bytes new.bytes)
  -- out of memory loses no byte
  pub keeps : IsErrOf result NoMemory → Keeps old.bytes new.bytes
  -- the stream never grows
  pub spends : new.bound ≤ old.bound
  -- and it shrinks unless it is at its end
  pub falls : IfOk result (λ line. (line ≡ End → ⊥) → new.bound < old.bound)
