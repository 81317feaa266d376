-- Receipts that are not named.
use Rattle.std.proofs.Common.{◌≡◌, ◌∙◌, ℕ, ◌+◌, ◌≤◌, ◌||◌, ◌&&◌, inl, inr, Bool, true, false, cond, List, [], ◌∷◌, length, refl, sym, ap, subst, arith}
use Rattle.std.specs.Prelude.{◌↔◌, Contains, IsTrue, filter, not, bytes_eq}
use Rattle.std.specs.List.{list_any}
use Rattle.receipt_core.specs.Receipt.{Receipt, receipt_id_of}
use Rattle.receipt_core.specs.Acceptance.{Meaning, IsMeaning}
use Rattle.replica_core.specs.State.{is_named, is_of_bucket, receipts_lacking}
use Rattle.replica_core.specs.Session.{state_of}
use Rattle.replica_core.specs.Lacking.{not_named}
use Rattle.replica_core.proofs.ContainsFacts.{contains-none, contains-cases, any-from}
use Rattle.std.proofs.lemmas.Bool.{cases_Bool}
use Rattle.std.proofs.lemmas.Slice.Eq.{bytes_eq-Decides}
use Rattle.receipt_core.specs.Limits.{most_receipts}
use Rattle.receipt_core.proofs.LimitFacts.{receipt_limit-most}

-- One step of `filter-filter`, for either outcome of the first test.
filter-both : (b : Bool) (p q : Receipt → Bool) (r : Receipt) (rs kept : List Receipt) → p r ≡ b
    → filter q kept ≡ filter (λ s. p s && q s) rs
    → filter q (cond b (r ∷ kept) kept) ≡ cond (b && q r) (r ∷ filter (λ s. p s && q s) rs)
    (filter (λ s. p s && q s) rs)
filter-both true p q r rs kept e h = ap (λ t. cond (q r) (r ∷ t) t) h
filter-both false p q r rs kept e h = h

-- Two filters in turn keep what passes both tests: a bucket's receipts that are not named.
pub filter-filter : (p q : Receipt → Bool) (rs : List Receipt) → filter q (filter p rs) ≡ filter (λ r. p r && q r) rs
filter-filter p q [] = refl
filter-filter p q (r ∷ rs) = filter-both (p r) p q r rs (filter p rs) refl (filter-filter p q rs)

-- If the second test passes, one of both does.
or-true : (b : Bool) → (b || true) ≡ true
or-true true = refl
or-true false = refl

-- An id that is among the ids is found by the test.
any-to : (ids : List (List ℕ)) (id : List ℕ) → Contains ids id → list_any (λ i. bytes_eq i id) ids ≡ true
any-to [] id has = absurd (contains-none id has)
any-to (i ∷ is) id has =
    elim (contains-cases i is id has) [
      | inl e ↦ ap (λ b. b || list_any (λ j. bytes_eq j id) is) ((bytes_eq-Decides i id).1 (sym e))
      | inr d ↦ ap (λ b. bytes_eq i id || b) (any-to is id d) ∙ or-true (bytes_eq i id)
    ]

-- A receipt whose id is among the ids is named.
named-true : (ids : List (List ℕ)) (r : Receipt) → Contains ids (receipt_id_of r) → is_named ids r ≡ true
named-true ids r has = any-to ids (receipt_id_of r) has

-- The id of a named receipt is among the ids.
named-has : (ids : List (List ℕ)) (r : Receipt) → is_named ids r ≡ true → Contains ids (receipt_id_of r)
named-has ids r e =
    let found = any-from (λ id. bytes_eq id (receipt_id_of r)) ids e in
    subst (Contains ids) ((bytes_eq-Decides found.0 (receipt_id_of r)).0 found.2) found.1

-- What the search among the ids returns is whether the receipt is named.
pub reports-named : (ids : List (List ℕ)) (r : Receipt) (id : List ℕ) (found : Bool) → id ≡ receipt_id_of r
    → IsTrue found ↔ Contains ids id → is_named ids r ≡ found
reports-named ids r id true e h = named-true ids r (subst (Contains ids) e (h.0 refl))
reports-named ids r id false e h =
    elim (cases_Bool (is_named ids r)) [
      | inl t ↦ absurd (let f : false ≡ true = h.1 (subst (Contains ids) (sym e) (named-has ids r t)) in cc)
      | inr f ↦ f
    ]

-- A receipt that is named is passed over.
pub named-skipped : (ids : List (List ℕ)) (r : Receipt) (rest others : List Receipt) → rest ≡ r ∷ others
    → is_named ids r ≡ true → not_named ids others ≡ not_named ids rest
named-skipped ids r rest others e t = ap (λ b. cond (not b) (r ∷ not_named ids others) (not_named ids others)) (sym t) ∙ ap (not_named ids) (sym e)

-- A receipt that is not named is lent next.
pub unnamed-given : (ids : List (List ℕ)) (r : Receipt) (rest others : List Receipt) → rest ≡ r ∷ others
    → is_named ids r ≡ false → not_named ids rest ≡ r ∷ not_named ids others
unnamed-given ids r rest others e t = ap (not_named ids) e ∙ ap (λ b. cond (not b) (r ∷ not_named ids others) (not_named ids others)) t

-- a filter gives no more than there are
kept-few : (b : Bool) (r : Receipt) (rs : List Receipt) (n : ℕ) → length rs ≤ n → length (cond b (r ∷ rs) rs) ≤ n + 1
kept-few true r rs n h = omega arith
kept-few false r rs n h = omega arith

-- A filter keeps no more than there are.
pub few-kept : (p : Receipt → Bool) (rs : List Receipt) → length (filter p rs) ≤ length rs
few-kept p [] = omega arith
few-kept p (r ∷ rs) = omega (arith, kept-few (p r) r (filter p rs) (length rs) (few-kept p rs))

-- No more receipts are lacking than may be held, so their number fits.
pub few-lacking : (m : Meaning) (bucket : ℕ) (ids : List (List ℕ)) → IsMeaning m → length (receipts_lacking (state_of m) bucket ids) ≤ most_receipts
few-lacking m bucket ids valid =
    let kept = few-kept (λ r. is_of_bucket bucket r && not (is_named ids r)) m.held in
    let few = valid.few in
    let most = receipt_limit-most m.config in
    omega arith
