-- Pieces of a message, and the hashers behind them.
use Rattle.std.proofs.Common.{◌≡◌, ℕ, ◌+◌, List, [], ◌∷◌, ◌++◌, take, drop, zero, suc, refl, sym, ap, ◌∙◌, subst, append_assoc}
use Rattle.std.proofs.lemmas.List.{take-append-drop}
use Rattle.std.proofs.Math.Seq.{take-append-add}
use Rattle.sha2.specs.Hashers.{Holds256}
use Rattle.sha2.specs.declared.Sha256.{Sha256}
use Rattle.bundle_doc.specs.Hashed.{AreHashed, with_pieces}
use Rattle.bundle_doc.specs.declared.known_beginnings.HashedPiece.{HashedPiece}

-- a front of 256 bytes and what follows are the text
pub joined : (text bytes rest : List ℕ) → bytes ≡ take 256 text → rest ≡ drop 256 text → bytes ++ rest ≡ text
joined text bytes rest front back = rw (front, back) (take-append-drop 256 text)

-- one more piece that the text begins with
pub with_pieces-more : (m : List ℕ) (ps others : List HashedPiece) (p : HashedPiece) (n : ℕ) (text rest end : List ℕ)
    → ps ≡ p ∷ others → p.bytes ≡ take 256 text → rest ≡ drop 256 text
    → ((front : List ℕ) → with_pieces front (take n others) ++ end ≡ front ++ rest)
    → with_pieces m (take (1 + n) ps) ++ end ≡ m ++ text
with_pieces-more m ps others p n text rest end whole front back ih =
    let head : take (1 + n) ps ≡ p ∷ take n others = ap (take (1 + n)) whole ∙ take-append-add (p ∷ []) others n in
    ap (λ x. with_pieces m x ++ end) head
    ∙ ih (m ++ p.bytes)
    ∙ append_assoc m p.bytes rest
    ∙ ap (λ x. m ++ x) (joined text p.bytes rest front back)

-- the hashers of some first pieces hold what they held
pub AreHashed-take : (m : List ℕ) (ps : List HashedPiece) (n : ℕ) → AreHashed m ps → AreHashed m (take n ps)
AreHashed-take m [] zero h = tt
AreHashed-take m [] (suc n) h = tt
AreHashed-take m (p ∷ ps) zero h = tt
AreHashed-take m (p ∷ ps) (suc n) h = (h.0, AreHashed-take (m ++ p.bytes) ps n h.1)

-- a piece more at the end
pub with_pieces-push : (m : List ℕ) (ps : List HashedPiece) (p : HashedPiece)
    → with_pieces m (ps ++ p ∷ []) ≡ with_pieces m ps ++ p.bytes
with_pieces-push m [] p = refl
with_pieces-push m (q ∷ ps) p = with_pieces-push (m ++ q.bytes) ps p

push : (m : List ℕ) (ps : List HashedPiece) (p : HashedPiece) → AreHashed m ps
    → Holds256 p.hasher (with_pieces m ps ++ p.bytes) → AreHashed m (ps ++ p ∷ [])
push m [] p h last = (last, tt)
push m (q ∷ ps) p h last = (h.0, push (m ++ q.bytes) ps p h.1 last)

pub AreHashed-push : (m : List ℕ) (ps more : List HashedPiece) (p : HashedPiece) (h : Sha256) → more ≡ ps ++ p ∷ []
    → p.hasher ≡ h → AreHashed m ps → Holds256 h (with_pieces m ps ++ p.bytes)
    → AreHashed m more × Holds256 h (with_pieces m more)
AreHashed-push m ps more p h whole same are holds = (
  subst (AreHashed m) (sym whole) (push m ps p are (subst (λ x. Holds256 x (with_pieces m ps ++ p.bytes)) (sym same) holds)),
  subst (λ x. Holds256 h (with_pieces m x)) (sym whole) (subst (Holds256 h) (sym (with_pieces-push m ps p)) holds),
)

-- the last hasher holds all
last : (m : List ℕ) (front : List HashedPiece) (p : HashedPiece) → AreHashed m (front ++ p ∷ [])
    → Holds256 p.hasher (with_pieces m (front ++ p ∷ []))
last m [] p h = h.0
last m (q ∷ front) p h = last (m ++ q.bytes) front p h.1

pub AreHashed-last : (m : List ℕ) (ps front : List HashedPiece) (p : HashedPiece) (h : Sha256) → ps ≡ front ++ p ∷ []
    → h ≡ p.hasher → AreHashed m ps → Holds256 h (with_pieces m ps)
AreHashed-last m ps front p h whole same are =
    subst (λ x. Holds256 x (with_pieces m ps)) (sym same)
    (subst (λ x. Holds256 p.hasher (with_pieces m x)) (sym whole) (last m front p (subst (AreHashed m) whole are)))
