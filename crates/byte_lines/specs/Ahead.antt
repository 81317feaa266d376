-- The bytes that were read ahead of a source, and the first line feed in them.
use Rattle.std.specs.Prelude.{◌≡◌, ℕ, ◌+◌, ◌<◌, ◌++◌, ◌∷◌, List, Option, length, take, drop}
use Rattle.std.specs.Prelude.{slice_range, vec_len, MatchOption}
use Rattle.byte_lines.specs.Lines.{HasNoFeed}
use Rattle.byte_lines.specs.declared.read_ahead.ReadAhead.{ReadAhead}

-- the bytes that were read and not yet passed
abbrev pub ahead_of : ReadAhead → List ℕ
ahead_of ahead = slice_range ahead.bytes.items ahead.start ahead.end

-- how many bytes one read may give
abbrev pub chunk_room : ReadAhead → ℕ
chunk_room ahead = vec_len ahead.bytes

-- the place of the first line feed
pub record IsFeed (bytes : List ℕ) (place : ℕ) : Type 0 where
  pub inside : place < length bytes
  pub plain : HasNoFeed (take place bytes)
  pub parts : bytes ≡ take place bytes ++ (10 ∷ drop (place + 1) bytes)

-- the place of the first line feed, if there is one
abbrev pub AtFeed : List ℕ → Option ℕ → Type 0
AtFeed bytes place = MatchOption place (HasNoFeed bytes) (IsFeed bytes)
