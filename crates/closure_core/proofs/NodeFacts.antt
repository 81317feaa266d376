-- Numbers whose flags are raised
use Rattle.std.proofs.Common.{◌≡◌, ℕ, zero, suc, ◌<◌, ◌==◌, eqb, inl, inr, Bool, true, false, cond, not, List, [], ◌∷◌, ◌++◌, length, arith, refl, sym, ap, ◌∙◌}
use Rattle.std.specs.Option.{option_map}
use Rattle.std.specs.Prelude.{Option, Some, None, slice_get}
use Rattle.std.specs.List.{cons_option, last_or}
use Rattle.std.proofs.lemmas.Bool.{cases_lt, both_ways, eqb-true, not_from_false}
use Rattle.std.proofs.lemmas.List.{append-nil, length-map, get_or-map, get_or_past}
use Rattle.std.proofs.lemmas.List.Elements.{All-pop, All-rest, filter_map-append}
use Rattle.bundle_doc.specs.Bundle.{Bundle}
use Rattle.receipt_core.specs.Receipt.{Pair}
use Rattle.closure_core.specs.Inside.Nodes.{AreNumbers, is_raised, raised_document, raised_documents, flags_of, count_at}

-- What is left to lend still has flags and documents after one number is lent.
pub next_kept : (pairs : List Pair) (flags : List Bool) (before after : List ℕ) (n : ℕ) → AreNumbers pairs flags before
    → before ≡ n ∷ after → AreNumbers pairs flags after
next_kept pairs flags before after n are e = record { flagged = are.flagged; within = All-rest (λ (k : ℕ). k < length pairs) n after before e are.within }

-- A number whose flag is lowered is passed over: the documents left to lend are the same.
pub next_skips : (pairs : List Pair) (flags : List Bool) (before after : List ℕ) (n : ℕ) → before ≡ n ∷ after
    → is_raised flags n ≡ false → raised_documents pairs flags after ≡ raised_documents pairs flags before
next_skips pairs flags before after n e lowered =
    sym (ap (raised_documents pairs flags) e
    ∙ ap (λ b. cons_option (cond b (option_map (λ p. p.document) (slice_get pairs n)) None)
    (raised_documents pairs flags after)) lowered)

-- whether a count means a raised flag
abbrev pub is_counted : ℕ → Bool
is_counted count = not (count == 0)

-- ---- flags of counts

-- The number of flags is the number of counts.
pub length-flags : (counts : List ℕ) → length (flags_of counts) ≡ length counts
length-flags counts = length-map counts is_counted

-- A flag is raised exactly if its count is not 0, also past the end.
pub flag-counted : (counts : List ℕ) (n : ℕ)
    → is_raised (flags_of counts) n ≡ is_counted (count_at counts n)
flag-counted counts n = elim (cases_lt n (length counts)) [
  | inl l ↦ get_or-map is_counted counts n 0 false l
  | inr l ↦ get_or_past (flags_of counts) n false (omega (arith, l, length-flags counts))
      ∙ ap is_counted (sym (get_or_past counts n 0 l))
]

-- A count that means a raised flag is above 0.
counted-positive : (k : ℕ) → is_counted k ≡ true → 0 < k
counted-positive zero e = absurd (both_ways false refl e)
counted-positive (suc k) e = omega arith

-- A count above 0 means a raised flag.
pub positive-counted : (k : ℕ) → 0 < k → is_counted k ≡ true
positive-counted k l = decide (eqb k 0) refl
  where
    decide : (b : Bool) → eqb k 0 ≡ b → is_counted k ≡ true
    decide true e = absurd (omega (arith, l, eqb-true k 0 e))
    decide false e = not_from_false (eqb k 0) e

-- If the flag is raised, the count is above 0.
pub raised-positive : (counts : List ℕ) (n : ℕ) → is_raised (flags_of counts) n ≡ true
    → 0 < count_at counts n
raised-positive counts n e = counted-positive (count_at counts n) (sym (flag-counted counts n) ∙ e)

-- If the count is above 0, the flag is raised.
pub positive-raised : (counts : List ℕ) (n : ℕ) → 0 < count_at counts n
    → is_raised (flags_of counts) n ≡ true
positive-raised counts n l = flag-counted counts n ∙ positive-counted (count_at counts n) l

-- If the count is 0, the flag is lowered: so the loops may look only at counts.
pub zero-lowered : (counts : List ℕ) (n : ℕ) → count_at counts n ≡ 0
    → is_raised (flags_of counts) n ≡ false
zero-lowered counts n e = flag-counted counts n ∙ ap is_counted e

-- ---- from the end

-- What is left to lend still has flags and documents after the last number is lent.
pub last_kept : (pairs : List Pair) (flags : List Bool) (before after : List ℕ) (n : ℕ) → AreNumbers pairs flags before
    → before ≡ after ++ n ∷ [] → AreNumbers pairs flags after × (n < length pairs)
last_kept pairs flags before after n are e =
    let kept = All-pop (λ (k : ℕ). k < length pairs) before after (Some n) e are.within in
    (record { flagged = are.flagged; within = kept.0 }, kept.1)

-- The documents with these numbers end with that of the last one, if its flag is raised.
documents-last : (pairs : List Pair) (flags : List Bool) (before after : List ℕ) (n : ℕ) → before ≡ after ++ n ∷ []
    → raised_documents pairs flags before ≡ raised_documents pairs flags after ++ raised_documents pairs flags (n ∷ [])
documents-last pairs flags before after n e =
    ap (raised_documents pairs flags) e ∙ filter_map-append (raised_document pairs flags) after (n ∷ [])

-- A last number whose flag is lowered is passed over: the documents left are the same.
pub last_skips : (pairs : List Pair) (flags : List Bool) (before after : List ℕ) (n : ℕ) → before ≡ after ++ n ∷ []
    → is_raised flags n ≡ false → raised_documents pairs flags after ≡ raised_documents pairs flags before
last_skips pairs flags before after n e lowered =
    sym (documents-last pairs flags before after n e
    ∙ ap (λ b. raised_documents pairs flags after
    ++ cons_option (cond b (option_map (λ p. p.document) (slice_get pairs n)) None) []) lowered
    ∙ append-nil (raised_documents pairs flags after))

-- What is put at the end is the last.
last_put : (o : Option Bundle) (ds : List Bundle) (d : Bundle) → Some d ≡ last_or o (ds ++ d ∷ [])
last_put o [] d = refl
last_put o (x ∷ ds) d = last_put (Some x) ds d

-- If the flag of the last number is raised, its document is the last.
pub last_given : (pairs : List Pair) (flags : List Bool) (before after : List ℕ) (n : ℕ) (d : Bundle) → before ≡ after ++ n ∷ []
    → is_raised flags n ≡ true → option_map (λ p. p.document) (slice_get pairs n) ≡ Some d
    → Some d ≡ last_or None (raised_documents pairs flags before)
last_given pairs flags before after n d e raised found =
    let one : raised_documents pairs flags (n ∷ []) ≡ d ∷ [] =
    ap (λ b. cons_option (cond b (option_map (λ p. p.document) (slice_get pairs n)) None) []) raised
    ∙ ap (λ (o : Option Bundle). cons_option o []) found in
    let whole : raised_documents pairs flags before ≡ raised_documents pairs flags after ++ d ∷ [] =
    documents-last pairs flags before after n e ∙ ap (λ ds. raised_documents pairs flags after ++ ds) one in
    rw whole (last_put None (raised_documents pairs flags after) d)
