-- Whether a line feed comes.
use Rattle.std.proofs.Common.{◌≡◌, ◌≢◌, ℕ, ◌+◌, ◌<◌, ◌==◌, ◌⊎◌, inl, inr, Bool, true, false, List, [], ◌∷◌, ◌++◌, length}
use Rattle.std.proofs.Common.{refl, sym, ap, ◌∙◌, subst, append_assoc, Option, None, Some, drop, get_or, take, length-append, arith}
use Rattle.std.proofs.lemmas.Bool.{eqb-true, eq-eqb}
use Rattle.std.proofs.lemmas.List.Elements.{All-append, All-cons, All-from_recursion, All-head, All-nil, All-tail, recursion_from_All}
use Rattle.std.specs.List.{AllByRecursion}
use Rattle.std.specs.Prelude.{MatchOption}
use Rattle.std.proofs.lemmas.Grind.{get_or_default_zero}
use Rattle.std.proofs.lemmas.List.{take_more}
use Rattle.memchr.specs.Find.{IsLastByte, is_byte}
use Rattle.byte_lines.specs.Limits.{line_limit}
use Rattle.byte_lines.specs.Lines.{HasNoFeed}
use Rattle.replica_sync.specs.Pieces.{IsOverlong}
use Rattle.replica_sync.specs.PullSessions.{EndsInFeed}
use Rattle.replica_sync.proofs.ServedPieceFacts.{Overlong}

-- If bytes have no line feed, the last of them have none.
by_recursion_back : (xs ys : List ℕ) → AllByRecursion (λ b. b ≢ 10) (xs ++ ys) → AllByRecursion (λ b. b ≢ 10) ys
by_recursion_back [] ys h = h
by_recursion_back (x ∷ xs) ys h = by_recursion_back xs ys h.1

pub plain_back : (xs ys : List ℕ) → HasNoFeed (xs ++ ys) → HasNoFeed ys
plain_back xs ys h = All-from_recursion (λ b. b ≢ 10) ys (by_recursion_back xs ys (recursion_from_All (λ b. b ≢ 10) (xs ++ ys) h))

-- Bytes that end in a line feed have one.
pub ends_plain : (before : List ℕ) → HasNoFeed (before ++ (10 ∷ [])) → ⊥
ends_plain before h =
    let last = by_recursion_back before (10 ∷ []) (recursion_from_All (λ b. b ≢ 10) (before ++ (10 ∷ [])) h) in
    last.0 refl

-- The first line feed of the bytes.
pub record FirstFeed (bytes : List ℕ) : Type 0 where
  pub text : List ℕ
  pub rest : List ℕ
  pub plain : HasNoFeed text
  pub parts : bytes ≡ text ++ (10 ∷ rest)

-- one byte more at the front
found_with : (feed : Bool) (b : ℕ) (bytes : List ℕ) → (b == 10) ≡ feed → HasNoFeed bytes ⊎ FirstFeed bytes
    → HasNoFeed (b ∷ bytes) ⊎ FirstFeed (b ∷ bytes)
found_with true b bytes is found = inr (record {
  text = [];
  rest = bytes;
  plain = All-from_recursion (λ b. b ≢ 10) [] tt;
  parts = ap (λ (x : ℕ). x ∷ bytes) (eqb-true b 10 is);
})
found_with false b bytes is (inl none) =
    inl (All-cons (λ (x : ℕ). x ≢ 10) b bytes (λ e. let feed = eq-eqb b 10 e in absurd (cc)) none)
found_with false b bytes is (inr first) = inr (record {
  text = b ∷ first.text;
  rest = first.rest;
  plain = All-cons (λ (x : ℕ). x ≢ 10) b first.text (λ e. let feed = eq-eqb b 10 e in absurd (cc)) first.plain;
  parts = ap (λ (l : List ℕ). b ∷ l) first.parts;
})

-- There is one, or none.
pub find_feed : (bytes : List ℕ) → HasNoFeed bytes ⊎ FirstFeed bytes
find_feed [] = inl (All-from_recursion (λ b. b ≢ 10) [] tt)
find_feed (b ∷ bytes) = found_with (b == 10) b bytes refl (find_feed bytes)

-- A line that is too long has its end if a line feed comes in the piece or after it.
pub overlong_now : (old piece tail : List ℕ) → IsOverlong line_limit (old ++ piece) → (HasNoFeed (piece ++ tail) → ⊥)
    → Overlong ((old ++ piece) ++ tail)
overlong_now old piece tail over feed =
    let whole : (old ++ piece) ++ tail ≡ over.text ++ (over.rest ++ tail) =
    ap (λ (l : List ℕ). l ++ tail) over.parts ∙ append_assoc over.text over.rest tail in
    elim (find_feed (over.rest ++ tail)) [
      | inl none ↦ absurd (feed (plain_back old (piece ++ tail)
          (subst HasNoFeed (sym whole ∙ append_assoc old piece tail) (All-append (λ (b : ℕ). b ≢ 10) over.text (over.rest ++ tail) over.plain none))))
      | inr first ↦
          let longer = length-append over.text first.text in
          let long = over.long in
          record {
            text = over.text ++ first.text;
            rest = first.rest;
            plain = All-append (λ (b : ℕ). b ≢ 10) over.text first.text over.plain first.plain;
            long = omega (arith, longer, long);
            parts = whole ∙ ap (λ (l : List ℕ). over.text ++ l) first.parts
                ∙ sym (append_assoc over.text first.text (10 ∷ first.rest))
                ∙ sym (append_assoc (over.text ++ first.text) (10 ∷ []) first.rest);
          }
    ]

-- Bytes that end in a line feed have one in the last of them.
pub feed_in_last : (front back text : List ℕ) → 0 < length back → front ++ back ≡ text ++ (10 ∷ []) → HasNoFeed back → ⊥
feed_in_last [] back text some same plain = ends_plain text (subst HasNoFeed same plain)
feed_in_last (x ∷ front) back [] some same plain =
    let size = ap length same in
    let parts = length-append front back in
    omega (arith, some, size, parts)
feed_in_last (x ∷ front) back (y ∷ text) some same plain = feed_in_last front back text some (ap (drop 1) same) plain

-- A line feed that comes after other bytes is one among them.
pub feed_after : (front more after : List ℕ) → HasNoFeed (front ++ (more ++ (10 ∷ after))) → ⊥
feed_after front more after none =
    All-head (λ (b : ℕ). b ≢ 10) 10 after (plain_back more (10 ∷ after) (plain_back front (more ++ (10 ∷ after)) none)) refl

-- The first bytes of those without a line feed have none.
pub plain_front : (xs ys : List ℕ) → HasNoFeed (xs ++ ys) → HasNoFeed xs
plain_front [] ys h = All-nil (λ (b : ℕ). b ≢ 10)
plain_front (x ∷ xs) ys h =
    All-cons (λ (b : ℕ). b ≢ 10) x xs (All-head (λ (b : ℕ). b ≢ 10) x (xs ++ ys) h) (plain_front xs ys (All-tail (λ (b : ℕ). b ≢ 10) x (xs ++ ys) h))

-- If a line feed was found, the bytes are not without one.
pub found_feed : (bytes text rest : List ℕ) → bytes ≡ text ++ (10 ∷ rest) → HasNoFeed bytes → ⊥
found_feed bytes text rest parts none =
    All-head (λ (b : ℕ). b ≢ 10) 10 rest (plain_back text (10 ∷ rest) (subst HasNoFeed parts none)) refl

-- What a search for the last line feed found.
pub last_feed_is : (bytes : List ℕ) (place : Option ℕ) → IsLastByte (is_byte 10) bytes place
    → MatchOption place (HasNoFeed bytes) (λ k. (k < length bytes) × EndsInFeed (take (k + 1) bytes))
last_feed_is bytes None none =
    λ k d below is.
    none k (omega arith) below (eq-eqb (get_or bytes k 0) 10 (sym (get_or_default_zero bytes k d below) ∙ is))
last_feed_is bytes (Some k) last =
    let inside : k < length bytes = last.0.high in
    let feed : get_or bytes k 0 ≡ 10 = eqb-true (get_or bytes k 0) 10 last.1 in
    (inside, (take k bytes, take_more bytes k 0 inside ∙ ap (λ (b : ℕ). take k bytes ++ b ∷ []) feed))
