-- Lines that are cut from bytes at a start: how many bytes the whole lines have, and the last line.
use Rattle.std.specs.Prelude.{◌≡◌, ◌+◌, ◌≤◌, ◌⊎◌, ◌↔◌, ◌++◌, ℕ, List, [], ◌∷◌, IsTrue, length}
use Rattle.std.specs.Prelude.{drop, take}
use Rattle.std.specs.Io.{StartsWith}
use Rattle.byte_lines.specs.Lines.{HasNoFeed, lines_of}
use Rattle.state_steps.specs.Cuts.{lines_found}
use Rattle.state_steps.specs.Files.{IsRemnantOf}
use Rattle.state_steps.specs.declared.line_cuts.CountedLines.{CountedLines}
use Rattle.state_steps.specs.declared.line_cuts.EndLine.{EndLine}

-- The bytes from here on are those behind the last line feed, or all without one.
pub record IsLineStart (bytes : List ℕ) (start : ℕ) : Type 0 where
  pub within : start ≤ length bytes
  pub plain : HasNoFeed (drop start bytes)
  pub feed : (start ≡ 0) ⊎ ((front : List ℕ) × (take start bytes ≡ front ++ 10 ∷ []))

-- All bytes of the text are counted, and all that are not of a part of a line at its end.
pub record AreCounted (counted : CountedLines) (text : List ℕ) : Type 0 where
  pub read : counted.read ≡ length text
  pub whole : counted.whole + length (lines_of text).rest ≡ length text

-- The text's last line, whole or a part of one, begins at this byte. Before it there are only whole
-- lines, and then its bytes follow.
pub record IsEndLine (text : List ℕ) (end : EndLine) : Type 0 where
  pub front : (lines_of (take end.begin text)).rest ≡ []
  pub found : lines_found text ≡ (lines_of (take end.begin text)).whole ++ end.line.now ∷ []
  pub whole : IsTrue end.is_whole ↔ ((lines_of text).rest ≡ [])

-- A stop may leave these bytes of a line that begins so.
abbrev pub MayBeLeftOf : List ℕ → List ℕ → Type 0
MayBeLeftOf beginning bytes = (line : List ℕ) × StartsWith line beginning × IsRemnantOf line bytes
