-- The ids of a have's line, from its text and back.
use Rattle.std.proofs.Common.{◌≡◌, ◌≢◌, ℕ, zero, suc, ◌/◌, ◌%◌, ◌<◌, ◌≤◌, ◌&&◌, Bool, true, false, inl, inr, List, [], ◌∷◌, ◌++◌, length, take, drop, get_or}
use Rattle.std.proofs.Common.{map, codes, slice_index, refl, ap, sym, ◌∙◌, subst, arith, length-append, length-take, append_assoc}
use Rattle.std.specs.Prelude.{Option, Some, None}
use Rattle.std.specs.Borrow.{Bor}
use Rattle.std.specs.List.{AllPass, AllByRecursion, flat_map, join_by}
use Rattle.std.proofs.lemmas.Bool.{and_parts, cases_lt}
use Rattle.std.proofs.lemmas.List.{get_or-take, map-append}
use Rattle.std.proofs.lemmas.List.Elements.{All-from_recursion}
use Rattle.std.proofs.Math.ListN.{get_or-append}
use Rattle.std.proofs.Math.Seq.{get_or-append_seam, drop-append_seam, take-append_seam}
use Rattle.hex.specs.Hex.{encode_lower, encode_with, lower_digits}
use Rattle.spiffe_name.specs.Bytes.{FirstFails}
use Rattle.receipt_core.specs.Receipt.{IsDigest}
use Rattle.receipt_core.proofs.HexFacts.{length-encode_lower}
use Rattle.receipt_core.specs.declared.receipt_id.ReceiptId.{ReceiptId}
use Rattle.replica_core.proofs.RisingListFacts.{all_append}
use Rattle.replica_texts.specs.Messages.{quoted}
use Rattle.replica_texts.specs.Inside.IdList.{TakesId, is_inside}
use Rattle.replica_texts.proofs.PieceFacts.{bytes_of}

-- ---- the closing bracket

-- The first byte that is not inside is not before the bracket.
not_before : (front rest : List ℕ) (place : ℕ) → AllPass is_inside front → FirstFails is_inside (front ++ 93 ∷ rest) place → place < length front → ⊥
not_before front rest place plain first less =
    let here : get_or (front ++ 93 ∷ rest) place 0 ≡ get_or front place 0 = get_or-append front (93 ∷ rest) 0 place less in
    let passes : is_inside (get_or front place 0) ≡ true = plain place 0 less in
    let fails : is_inside (get_or (front ++ 93 ∷ rest) place 0) ≡ false = first.fails in
    cc

-- The bracket is not inside.
bracket-fails : (b : ℕ) → b ≡ 93 → is_inside b ≡ true → ⊥
bracket-fails b e passes = let no : is_inside 93 ≡ true = subst (λ x. is_inside x ≡ true) e passes in cc

-- The first byte that is not inside is not after the bracket.
not_after : (front rest : List ℕ) (place : ℕ) → FirstFails is_inside (front ++ 93 ∷ rest) place → length front < place → ⊥
not_after front rest place first more =
    let text = front ++ 93 ∷ rest in
    let within : place < length text = first.within in
    let size : length (take place text) ≡ place = length-take place text ∙ omega arith in
    bracket-fails (get_or (take place text) (length front) 0)
    (get_or-take place text (length front) 0 more ∙ get_or-append_seam front 93 rest 0)
    (first.before (length front) 0 (omega (arith, size)))

-- The first byte that is not inside is the bracket.
seam : (text front rest : List ℕ) (place : ℕ) → AllPass is_inside front → text ≡ front ++ 93 ∷ rest → FirstFails is_inside text place → place ≡ length front
seam text front rest place plain e first =
    let here = subst (λ t. FirstFails is_inside t place) e first in
    let low : (place < length front) → ⊥ = not_before front rest place plain here in
    let high : (length front < place) → ⊥ = not_after front rest place here in
    omega arith

-- A text with a bracket is not all inside.
pub no_bracket : (text front rest : List ℕ) → text ≡ front ++ 93 ∷ rest → AllPass is_inside text → ⊥
no_bracket text front rest e all =
    let within : length front < length (front ++ 93 ∷ rest) = omega (arith, length-append front (93 ∷ rest)) in
    bracket-fails (get_or (front ++ 93 ∷ rest) (length front) 0) (get_or-append_seam front 93 rest 0) (subst (AllPass is_inside) e all (length front) 0 within)

-- a text of two parts is split at the end of the first
parted : (text front back : List ℕ) (place : ℕ) → text ≡ front ++ back → place ≡ length front → (take place text ≡ front) × (drop place text ≡ back)
parted text front back place e p = (
  ap (take place) e ∙ ap (λ n. take n (front ++ back)) p ∙ take-append_seam front back,
  ap (drop place) e
      ∙ ap (λ n. drop n (front ++ back)) p ∙ drop-append_seam front back,
)

-- A text is cut at its first bracket.
pub at_bracket : (text front rest : List ℕ) (place : ℕ) → AllPass is_inside front → text ≡ front ++ 93 ∷ rest
    → FirstFails is_inside text place → (take place text ≡ front) × (drop place text ≡ 93 ∷ rest)
at_bracket text front rest place plain e first = parted text front (93 ∷ rest) place e (seam text front rest place plain e first)

-- ---- no id has a bracket

-- the test of the first n digits of the table, which computes
abbrev are_inside_below : ℕ → Bool
are_inside_below zero = true
are_inside_below (suc n) = is_inside (slice_index lower_digits n) && are_inside_below n

-- A digit below n passes the test.
digit_inside : (n d : ℕ) → are_inside_below n ≡ true → d < n → is_inside (slice_index lower_digits d) ≡ true
digit_inside zero d h lt = absurd (omega arith)
digit_inside (suc n) d h lt =
    let parts = and_parts (is_inside (slice_index lower_digits n)) (are_inside_below n) h in
    elim (cases_lt d n) [
      | inl below ↦ digit_inside n d parts.1 below
      | inr top ↦
          let e : d ≡ n = omega arith in
          rw e parts.0
    ]

-- no byte is the bracket
abbrev Inside : List ℕ → Type 0
Inside = AllByRecursion (λ b. is_inside b ≡ true)

-- A text of two parts without a bracket has none.
inside_both : (xs ys : List ℕ) → Inside xs → Inside ys → Inside (xs ++ ys)
inside_both [] ys h k = k
inside_both (x ∷ xs) ys h k = (h.0, inside_both xs ys h.1 k)

-- Hexadecimal digits have no bracket among them.
inside_digits : (a : List ℕ) → AllByRecursion (λ b. b < 256) a → Inside (encode_lower a)
unfolding encode_with
inside_digits [] h = tt
inside_digits (x ∷ a) h = (digit_inside 16 (x / 16) refl (omega (arith, h.0)), (digit_inside 16 (x % 16) refl (omega arith), inside_digits a h.1))

-- An id in quotation marks has no bracket.
inside_quoted : (id : List ℕ) → IsDigest id → Inside (quoted id)
inside_quoted id is = (refl, inside_both (encode_lower id) (34 ∷ []) (inside_digits id is.octets) (refl, tt))

-- the ids after the first, each with the comma before it
abbrev pub later_text : List (List ℕ) → List ℕ
later_text ids = flat_map (λ id. codes "," ++ quoted id) ids

-- Later ids have no bracket.
inside_later : (ids : List (List ℕ)) → AllByRecursion IsDigest ids → Inside (later_text ids)
inside_later [] h = tt
inside_later (id ∷ ids) h = inside_both (codes "," ++ quoted id) (later_text ids) (refl, inside_quoted id h.0) (inside_later ids h.1)

-- A list of ids has no bracket.
inside_join : (ids : List (List ℕ)) → AllByRecursion IsDigest ids → Inside (join_by quoted (codes ",") ids)
inside_join [] h = tt
inside_join (id ∷ ids) h = inside_both (quoted id) (later_text ids) (inside_quoted id h.0) (inside_later ids h.1)

-- A list of ids has no bracket, as the search states it.
pub inside_ids : (ids : List (List ℕ)) → AllByRecursion IsDigest ids → AllPass is_inside (join_by quoted (codes ",") ids)
inside_ids ids h = All-from_recursion (λ b. is_inside b ≡ true) (join_by quoted (codes ",") ids) (inside_join ids h)

-- ---- the first id

-- An id in quotation marks has 66 bytes.
pub length-quoted : (id : List ℕ) → IsDigest id → length (quoted id) ≡ 66
length-quoted id is =
    let size = length-encode_lower id is in
    let follows = length-append (encode_lower id) (34 ∷ []) in
    omega (arith, size, follows)

-- if there is an id, it is long enough and begins with a quotation mark
pub none-short : (text : List ℕ) (ids : List (List ℕ)) → AllByRecursion IsDigest ids
    → text ≡ join_by quoted (codes ",") ids → length text < 66 → TakesId ids None
none-short text [] h e short = refl
none-short text (id ∷ ids) h e short =
    let size = length-quoted id h.0 in
    let whole = ap length e ∙ length-append (quoted id) (later_text ids) in
    absurd (omega (arith, size, whole, short))

-- If no quotation mark comes first, there is no id.
pub none-other : (text : List ℕ) (ids : List (List ℕ)) → AllByRecursion IsDigest ids
    → text ≡ join_by quoted (codes ",") ids → get_or text 0 0 ≢ 34 → TakesId ids None
none-other text [] h e other = refl
none-other text (id ∷ ids) h e other = absurd (other (ap (λ (t : List ℕ). get_or t 0 0) e))

-- Without its first comma, the text of later ids is that of a list.
without-comma : (ids : List (List ℕ)) → drop 1 (later_text ids) ≡ join_by quoted (codes ",") ids
without-comma [] = refl
without-comma (id ∷ ids) = refl

-- If the text is long enough the first id was taken, and the others come after it.
pub some-first : (text first rest digest : List ℕ) (ids : List (List ℕ)) (found : ReceiptId) (back : Bor (List ℕ))
    → AllByRecursion IsDigest ids → text ≡ join_by quoted (codes ",") ids → 66 ≤ length text
    → first ≡ take 66 text → rest ≡ drop 66 text
    → ((d follows : List ℕ) → IsDigest d
    → first ≡ codes "\"" ++ (encode_lower d ++ follows) → digest ≡ d) → found.0 ≡ digest → back.now ≡ drop 1 rest
    → TakesId ids (Some (found, back))
some-first text first rest digest [] found back h e long f r exact same b = absurd (omega (arith, long, ap length e))
some-first text first rest digest (id ∷ ids) found back h e long f r exact same b =
    let parts = parted text (quoted id) (later_text ids) 66 e (sym (length-quoted id h.0)) in
    (same ∙ exact id (codes "\"") h.0 (f ∙ parts.0), b ∙ ap (drop 1) (r ∙ parts.1) ∙ without-comma ids)

-- ---- the ids so far

-- These of the wanted ids are taken, and the others are listed in the rest.
pub record IsRest (wanted taken : List (List ℕ)) (rest : List ℕ) : Type 0 where
  pub others : List (List ℕ)
  pub digests : AllByRecursion IsDigest others
  pub parts : wanted ≡ taken ++ others
  pub listed : rest ≡ join_by quoted (codes ",") others

-- the text lists no other ids than those that are taken and those of the rest
abbrev pub Lists : List ℕ → List (List ℕ) → List ℕ → Type 0
Lists text taken rest = (wanted : List (List ℕ)) → AllByRecursion IsDigest wanted → text ≡ join_by quoted (codes ",") wanted → IsRest wanted taken rest

-- The first of the ids that are left was taken.
more-of : (wanted taken others : List (List ℕ)) (rest : List ℕ) (found : ReceiptId) (back : Bor (List ℕ))
    → AllByRecursion IsDigest others → wanted ≡ taken ++ others → TakesId others (Some (found, back))
    → IsRest wanted (taken ++ found.0 ∷ []) back.now
more-of wanted taken [] rest found back h e takes = absurd (cc)
more-of wanted taken (id ∷ others) rest found back h e takes = record {
  others = others;
  digests = h.1;
  parts = e ∙ ap (λ x. taken ++ x ∷ others) (sym takes.0) ∙ sym (append_assoc taken (found.0 ∷ []) others);
  listed = takes.1;
}

-- of the ids that the rest lists the first was taken
abbrev TakesFirst : List ℕ → Option (ReceiptId × Bor (List ℕ)) → Type 0
TakesFirst rest found = (ids : List (List ℕ)) → AllByRecursion IsDigest ids → rest ≡ join_by quoted (codes ",") ids → TakesId ids found

-- The step of the loop: one id more is taken, and the rest lists the others.
pub lists-more : (text rest : List ℕ) (ids more : List ReceiptId) (found : ReceiptId) (back : Bor (List ℕ))
    → Lists text (map bytes_of ids) rest → TakesFirst rest (Some (found, back)) → more ≡ ids ++ found ∷ []
    → Lists text (map bytes_of more) back.now
lists-more text rest ids more found back lists takes e = λ wanted digests spelt.
    let so_far = lists wanted digests spelt in
    subst (λ taken. IsRest wanted taken back.now) (sym (ap (map bytes_of) e ∙ map-append bytes_of ids (found ∷ [])))
    (more-of wanted (map bytes_of ids) so_far.others rest found back so_far.digests so_far.parts (takes so_far.others so_far.digests so_far.listed))

-- With one digest more at the end, all ids that were taken are digests.
pub digests-more : (ids more : List ReceiptId) (found : ReceiptId) → AllByRecursion IsDigest (map bytes_of ids)
    → IsDigest found.0 → more ≡ ids ++ found ∷ [] → AllByRecursion IsDigest (map bytes_of more)
digests-more ids more found h is e =
    subst (AllByRecursion IsDigest) (sym (ap (map bytes_of) e ∙ map-append bytes_of ids (found ∷ [])))
    (all_append IsDigest (map bytes_of ids) (found.0 ∷ []) h (is, tt))
