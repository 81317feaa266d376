-- Lines of a stream that comes in pieces: what is kept between them, and what a piece does.
use Rattle.std.specs.Prelude.{◌≡◌, ℕ, ◌<◌, ◌≤◌, ◌++◌, ◌∷◌, List, [], length, take, if◌then◌else◌}
use Rattle.byte_lines.specs.Lines.{HasNoFeed}
use Rattle.replica_sync.specs.declared.line_part.LinePart.{LinePart}
use Rattle.replica_sync.specs.declared.line_part.PieceEnd.{PieceEnd}
use Rattle.replica_sync.specs.declared.line_part.PieceEnd.TheVariants.{Within, Line, TooLong}

-- the beginning of a line that has not ended
abbrev pub kept_part : LinePart → List ℕ
kept_part part = if part.has_ended then [] else part.line.items

-- the line that the last piece ended, without its line feed
abbrev pub ended_line : LinePart → List ℕ
ended_line part = part.line.items

-- how many bytes a line may have, without its line feed
abbrev pub longest : LinePart → ℕ
longest part = part.limit

-- what a line may have at most, what was kept, and the piece that came
pub record PieceRun : Type 0 where
  pub most : ℕ
  pub old : List ℕ
  pub piece : List ℕ

abbrev pub piece_run : ℕ → List ℕ → List ℕ → PieceRun
piece_run most old piece = record { most = most; old = old; piece = piece }

-- The bytes begin with a text without a line feed that is longer than a line may be.
pub record IsOverlong (most : ℕ) (bytes : List ℕ) : Type 0 where
  pub text : List ℕ
  pub rest : List ℕ
  pub plain : HasNoFeed text
  pub long : most < length text
  pub parts : bytes ≡ text ++ rest

-- No line ended: what was kept and the piece are the beginning of one.
pub record Continues (run : PieceRun) (new : List ℕ) : Type 0 where
  pub kept : new ≡ run.old ++ run.piece
  pub plain : HasNoFeed new
  pub short : length new ≤ run.most

-- What was kept and this many bytes of the piece are this line and its line feed.
pub record EndsLine (run : PieceRun) (used : ℕ) (text : List ℕ) : Type 0 where
  pub within : used ≤ length run.piece
  pub some : 0 < used
  pub parts : run.old ++ take used run.piece ≡ text ++ (10 ∷ [])
  pub plain : HasNoFeed text
  pub short : length text ≤ run.most

-- what a piece does
abbrev pub TakesPiece : PieceRun → LinePart → PieceEnd → Type 0
TakesPiece run new Within = Continues run (kept_part new)
TakesPiece run new (Line used) = EndsLine run used (ended_line new) × (kept_part new ≡ [])
TakesPiece run new TooLong = IsOverlong run.most (run.old ++ run.piece)
    × (kept_part new ≡ run.old)
