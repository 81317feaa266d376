-- What the hashers after each piece of a message hold.
use Rattle.std.specs.Prelude.{⊤, ℕ, ◌++◌, List, [], ◌∷◌}
use Rattle.sha2.specs.Hashers.{Holds256}
use Rattle.bundle_doc.specs.declared.known_beginnings.HashedPiece.{HashedPiece}

-- what a message is with the pieces behind it
abbrev pub with_pieces : List ℕ → List HashedPiece → List ℕ
with_pieces m [] = m
with_pieces m (piece ∷ others) = with_pieces (m ++ piece.bytes) others

-- each hasher holds the message with all pieces up to its own
abbrev pub AreHashed : List ℕ → List HashedPiece → Type 0
AreHashed m [] = ⊤
AreHashed m (piece ∷ others) = Holds256 piece.hasher (m ++ piece.bytes)
    × AreHashed (m ++ piece.bytes) others
