-- What the steps of a line buffer do.
use Rattle.std.specs.Prelude.{◌≡◌, ℕ, ◌<◌, ◌≤◌, ◌++◌, ◌∷◌, List, [], length, false, true, Option}
use Rattle.std.specs.Prelude.{Result, Ok, Err, IfOk, IsErrOf}
use Rattle.std.specs.Io.KnownBytes.{Keeps, IsAtEnd}
use Rattle.std.specs.declared.alloc.AllocError.{AllocError}
use Rattle.byte_lines.specs.Lines.{HasNoFeed, HasLine, HasNoLine, HasMore}
use Rattle.byte_lines.specs.Ahead.{ahead_of}
use Rattle.byte_lines.specs.Streams.{kept, StreamState}
use Rattle.byte_lines.specs.declared.line_buf.LineBuf.{LineBuf}
use Rattle.byte_lines.specs.declared.line_buf.Found.{Found}
use Rattle.byte_lines.specs.declared.line_buf.Found.TheVariants.{Text, TooLong, Cut, End}
use Rattle.byte_lines.specs.declared.line_buf.Gathered.{Gathered}
use Rattle.byte_lines.specs.declared.line_buf.Gathered.TheVariants.{Part, Line, TooMuch}
use Rattle.byte_lines.specs.declared.error.DeviceError.{DeviceError}
use Rattle.byte_lines.specs.declared.error.DeviceError.TheVariants.{NoMemory}
use Rattle.byte_lines.specs.Limits.{line_limit}

-- what was found; `given` is the line that the buffer then holds
abbrev pub FindsIn : Option (List ℕ) → Option (List ℕ) → List ℕ → Found → Type 0
FindsIn old new given Text = HasLine old new given × (length given ≤ line_limit)
FindsIn old new given TooLong = (text : List ℕ)
    × HasLine old new text × (line_limit < length text)
FindsIn old new given Cut = HasNoLine old × HasMore old × IsAtEnd new
FindsIn old new given End = IsAtEnd old × IsAtEnd new

-- what `advance` does to the stream; `given` is the line that the buffer then holds
pub record TakesFound (old new : StreamState) (given : List ℕ)
    (result : Result Found DeviceError) : Type 0 where
  pub finds : IfOk result (FindsIn old.bytes new.bytes given)
  pub keeps : IsErrOf result NoMemory → Keeps old.bytes new.bytes
  pub spends : new.bound ≤ old.bound
  pub falls : IfOk result (λ found. (found ≡ End → ⊥) → new.bound < old.bound)

-- a text without a line feed that is longer than a line may be was passed
pub record SkipsText (old new : List ℕ) : Type 0 where
  pub text : List ℕ
  pub plain : HasNoFeed text
  pub long : line_limit < length text
  pub parts : old ≡ text ++ new

abbrev pub GathersLine : LineBuf → LineBuf → Result Gathered AllocError → Type 0
GathersLine old new (Ok Part) = (kept new ≡ kept old) × (ahead_of new.ahead ≡ [])
    × (new.is_given ≡ false)
GathersLine old new (Ok Line) = (kept old ≡ new.line.items ++ (10 ∷ kept new))
    × (new.is_given ≡ true)
GathersLine old new (Ok TooMuch) = SkipsText (kept old) (ahead_of new.ahead) × (new.line.items ≡ [])
    × (new.is_given ≡ false)
GathersLine old new (Err e) = (kept new ≡ kept old)
