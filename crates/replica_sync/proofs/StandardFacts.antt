-- What pieces do, said of the definitions: a slip in one of these does not check.
use Rattle.std.proofs.Common.{◌≡◌, ◌++◌, codes, refl, drop, arith}
use Rattle.byte_lines.specs.Lines.{lines_of, with_line, HasNoFeed}
use Rattle.replica_sync.specs.Pieces.{EndsLine, piece_run}

-- A line feed in the second piece ends the line that began in the first, and what is behind it
-- remains.
pub line_of_two_pieces : HasNoFeed (codes "abc") → EndsLine (piece_run 3 (codes "ab") (codes "c\nd")) 2 (codes "abc")
line_of_two_pieces plain = record { within = omega arith; some = omega arith; parts = refl; plain = plain; short = omega arith }

-- The stream of these pieces has that line, and the rest that remains.
pub lines_of_two_pieces : lines_of ((codes "ab" ++ codes "c\nd") ++ codes "e") ≡ with_line (codes "abc") (lines_of (drop 2 (codes "c\nd") ++ codes "e"))
lines_of_two_pieces = refl
