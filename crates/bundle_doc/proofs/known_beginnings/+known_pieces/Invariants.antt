use Rattle.std.proofs.Common.{length}
use Rattle.bundle_doc.proofs.known_beginnings.+known_pieces.Given as goal

abbrev pub decreases-known_pieces : goal.decreases-known_pieces
decreases-known_pieces l = length l.pieces.now
