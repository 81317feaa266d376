-- A text that is split at a slash.
use Rattle.std.proofs.Common.{◌≡◌, ◌≢◌, ℕ, ◌<◌, true, List, [], ◌∷◌, ◌++◌, length, take, drop, get_or, refl, sym, ◌∙◌, subst, arith, drop-cons, lit<}
use Rattle.std.proofs.lemmas.Bool.Decides.{nat_tests}
use Rattle.std.proofs.lemmas.List.{append-nil, take-append-drop, get_or-take, get_or_at, length-append, length-take-le}
use Rattle.std.proofs.lemmas.List.Elements.{All-from_get_or, All-head, All-tail}
use Rattle.std.proofs.lemmas.Str.{IsCharBoundary-before_ascii, IsCharBoundary-end}
use Rattle.std.specs.List.{AllPass}
use Rattle.std.specs.Str.{IsCharBoundary}
use Rattle.spiffe_name.specs.Bytes.{is_not_slash, EmptyOrSlash, SplitsAtSlash}

-- a byte that is not a slash passes the test for it
pub passes : (b : ℕ) → b ≢ 47 → is_not_slash b ≡ true
passes b h = grind (arith, nat_tests)

-- a slash does not
fails : (b : ℕ) → b ≡ 47 → is_not_slash b ≡ true → ⊥
fails b h e = cc

-- what is left from a slash on begins with one
pub EmptyOrSlash-drop : (text : List ℕ) (n : ℕ) → n < length text → get_or text n 0 ≡ 47 → EmptyOrSlash (drop n text)
EmptyOrSlash-drop text n within here = rw (drop-cons text n 0 within) here

-- the text is split at its first slash
pub splits_here : (text : List ℕ) (n : ℕ) → n < length text → get_or text n 0 ≡ 47
    → ((i : ℕ) → i < n → get_or text i 0 ≢ 47) → SplitsAtSlash text (take n text) (drop n text)
splits_here text n within here before = record {
  whole = sym (take-append-drop n text);
  no_slash = All-from_get_or (λ b. is_not_slash b ≡ true) (take n text) 0 (λ i h.
      let low : i < n = subst (λ m. i < m) (length-take-le n text (omega arith)) h in
      rw (get_or-take n text i 0 low) (passes _ (before i low)));
  slash = EmptyOrSlash-drop text n within here;
}

-- a text without a slash is all front
pub splits_none : (text : List ℕ) → ((i : ℕ) → i < length text → get_or text i 0 ≢ 47) → SplitsAtSlash text text []
splits_none text h = record {
  whole = sym (append-nil text);
  no_slash = All-from_get_or (λ b. is_not_slash b ≡ true) text 0 (λ i low. passes _ (h i low));
  slash = tt;
}

-- a text is split at its first slash in one way only
pub same_split : (xs rest ys more : List ℕ) → AllPass is_not_slash xs → EmptyOrSlash rest → AllPass is_not_slash ys
    → EmptyOrSlash more → xs ++ rest ≡ ys ++ more → (xs ≡ ys) × (rest ≡ more)
same_split [] rest [] more p s q t e = (refl, e)
same_split (x ∷ xs) rest [] [] p s q t e = cc
same_split (x ∷ xs) rest [] (m ∷ more) p s q t e = absurd (fails x (let h : x ≡ m = cc in h ∙ t) (All-head (λ b. is_not_slash b ≡ true) x xs p))
same_split [] [] (y ∷ ys) more p s q t e = cc
same_split [] (r ∷ rest) (y ∷ ys) more p s q t e = absurd (fails y (let h : y ≡ r = cc in h ∙ s) (All-head (λ b. is_not_slash b ≡ true) y ys q))
same_split (x ∷ xs) rest (y ∷ ys) more p s q t e =
    let h = same_split xs rest ys more (All-tail (λ b. is_not_slash b ≡ true) x xs p) s (All-tail (λ b. is_not_slash b ≡ true) y ys q) t cc in
    (cc, h.1)

-- a text may be cut if a slash or nothing follows
pub IsCharBoundary-at_slash : (text front rest : List ℕ) → text ≡ front ++ rest → EmptyOrSlash rest → IsCharBoundary text (length front)
IsCharBoundary-at_slash text front [] e s = rw (e ∙ append-nil front) (IsCharBoundary-end front)
IsCharBoundary-at_slash text front (b ∷ rest) e s =
    rw e (IsCharBoundary-before_ascii (front ++ b ∷ rest) (length front) (rw length-append (omega arith))
    (rw (get_or_at front b rest 0 (length front) refl, s) (lit< tt)))
