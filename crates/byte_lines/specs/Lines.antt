-- The lines of a stream of bytes: a list of lines, each ended by a line feed, and a rest without
-- one.
use Rattle.std.specs.Prelude.{◌≢◌, ◌<◌, ℕ, Bool, ◌==◌, ◌++◌, true, false, ⊤, List, [], ◌∷◌, length}
use Rattle.std.specs.Prelude.{Option, Some, None, All}
use Rattle.std.specs.Io.KnownBytes.{Consumes}

pub record Lines : Type 0 where
  pub whole : List (List ℕ)
  pub rest : List ℕ

-- a byte that is not a line feed goes to the front of the first line, or of the rest if there is no
-- line
abbrev pub before : ℕ → List (List ℕ) → List ℕ → Lines
before b [] rest = record { whole = []; rest = b ∷ rest }
before b (text ∷ others) rest = record { whole = (b ∷ text) ∷ others; rest = rest }

abbrev pub with_byte : Bool → ℕ → Lines → Lines
with_byte true b lines = record { whole = [] ∷ lines.whole; rest = lines.rest }
with_byte false b lines = before b lines.whole lines.rest

abbrev pub lines_of : List ℕ → Lines
lines_of [] = record { whole = []; rest = [] }
lines_of (b ∷ bytes) = with_byte (b == 10) b (lines_of bytes)

-- no byte of it is a line feed
abbrev pub HasNoFeed : List ℕ → Type 0
HasNoFeed bytes = All (λ b. b ≢ 10) bytes

-- `text`, which has no line feed, is the first line of the stream `old`, and `new` is what follows
-- its line feed
abbrev pub HasLine : Option (List ℕ) → Option (List ℕ) → List ℕ → Type 0
HasLine old new text = HasNoFeed text × Consumes old new (text ++ (10 ∷ []))

-- no line feed comes any more
abbrev pub HasNoLine : Option (List ℕ) → Type 0
HasNoLine None = ⊤
HasNoLine (Some bytes) = HasNoFeed bytes

-- a byte is still to come
abbrev pub HasMore : Option (List ℕ) → Type 0
HasMore None = ⊤
HasMore (Some bytes) = 0 < length bytes

-- the first line of all bytes, and then the lines of what follows it
abbrev pub with_line : List ℕ → Lines → Lines
with_line text lines = record { whole = text ∷ lines.whole; rest = lines.rest }
