-- Different documents in order
use Rattle.std.proofs.Common.{◌≡◌, ℕ, suc, ◌+◌, ◌-◌, ◌<◌, ◌≤◌, inl, inr, Bool, true, List, [], ◌∷◌, ◌++◌, length}
use Rattle.std.proofs.Common.{get_or, take, drop, Some, arith, refl, sym, ap, ◌∙◌, subst}
use Rattle.std.specs.Prelude.{Contains, slice_get, AllPairs, ◌↔◌}
use Rattle.std.specs.declared.cmp.Ordering.{Ordering}
use Rattle.std.specs.declared.cmp.Ordering.TheVariants.{Less, Equal, Greater}
use Rattle.std.specs.Cmp.{IsTotalOrder}
use Rattle.std.specs.Cmp.Lexicographic.{slice_cmp}
use Rattle.std.specs.List.{All, insert}
use Rattle.std.specs.Option.{option_cmp}
use Rattle.std.specs.Ordering.{nat_cmp, ordering_then, ordering_index, ordering_reverse}
use Rattle.std.proofs.lemmas.Bool.{cases_lt, cases_order}
use Rattle.std.proofs.lemmas.Cmp.{nat_list_cmp_total, on_total, then_total, tied_itself, alike_right}
use Rattle.std.proofs.lemmas.List.{get_or_append_left, get_or_push, get_or_default, length_push, take-append-drop}
use Rattle.std.proofs.lemmas.List.Edits.{length-insert, get_or-insert_below, get_or-insert_at, get_or-insert_above}
use Rattle.std.proofs.lemmas.List.Elements.{All-contains, All-push, All-append, All-cons, All-take, All-drop}
use Rattle.std.proofs.lemmas.List.Elements.{All-weaker, Contains-append_left, Contains-append_right}
use Rattle.std.proofs.lemmas.List.Elements.{Contains-append_cases}
use Rattle.std.proofs.lemmas.Map.Lookups.{exact_bytes}
use Rattle.std.proofs.lemmas.Option.{slice_get-get_or, slice_get_within, get_or_from_slice_get}
use Rattle.bundle_doc.specs.Bundle.{Bundle, IsBundle, canonical_text}
use Rattle.bundle_doc.proofs.BundleFacts.{one_text}
use Rattle.receipt_core.specs.Receipt.{Pair}
use Rattle.sorted_order.specs.Sought.{IsRising, IsFound, IsMissing}
use Rattle.fed_config.specs.Configuration.{domain_cmp}
use Rattle.closure_parts.proofs.PlaceFacts.{slice_get-push_cases}
use Rattle.closure_core.specs.Order.{document_total}
use Rattle.closure_core.specs.AcceptedList.{document_cmp}
use Rattle.closure_core.specs.Inside.Nodes.{is_raised, flags_of}
use Rattle.closure_parts.specs.Pairs.{pair_cmp, no_documents, pair_at, DocumentTableView, AreRising, IsDocumentTable, PutsFirst, HasRaised}

-- The order of pairs is total.
pub pair-total : IsTotalOrder pair_cmp
pair-total = then_total (on_total (λ (p : Pair). p.domain) nat_list_cmp_total) (on_total (λ (p : Pair). p.document) document_total)

-- What ties by two comparisons ties by each.
then-first : (a b : Ordering) → ordering_then a b ≡ Equal → (a ≡ Equal) × (b ≡ Equal)
then-first Less b e = absurd (cc)
then-first Equal b e = (refl, e)
then-first Greater b e = absurd (cc)

-- documents of their forms that are in one place are equal
pub pair-exact : (p q : Pair) → IsBundle p.document → IsBundle q.document → pair_cmp p q ≡ Equal → p ≡ q
pair-exact p q f g e =
    let first = then-first (domain_cmp p.domain q.domain) (document_cmp p.document q.document) e in
    let second = then-first (option_cmp nat_cmp p.document.rank q.document.rank)
    (slice_cmp nat_cmp (canonical_text p.document) (canonical_text q.document)) first.1 in
    let domain : p.domain ≡ q.domain = exact_bytes p.domain q.domain first.0 in
    let document : p.document ≡ q.document =
    one_text p.document q.document f g
    (exact_bytes (canonical_text p.document) (canonical_text q.document) second.1) in
    ap (λ (d : List ℕ). let x : Pair = record { domain = d; document = p.document } in x) domain
    ∙ ap (λ (b : Bundle). let x : Pair = record { domain = q.domain; document = b } in x) document

-- Compared with a sought pair, the first of two sorted pairs comes no later than the second.
index-rises : (a b x : Pair) → pair_cmp a b ≡ Less → (o : Ordering) → pair_cmp b x ≡ o → ordering_index (pair_cmp a x) ≤ ordering_index o
index-rises a b x l Less e = let f : pair_cmp a x ≡ Less = pair-total.trans a b x l e in omega (arith, ap ordering_index f)
index-rises a b x l Equal e = let f : pair_cmp a x ≡ Less = sym (alike_right pair-total b x a e) ∙ l in omega (arith, ap ordering_index f)
index-rises a b x l Greater e = most (pair_cmp a x)
  where
    most : (o : Ordering) → ordering_index o ≤ 2
    most Less = omega arith
    most Equal = omega arith
    most Greater = omega arith

-- Pairs in order rise for the search of one.
pub rising-sought : (pairs : List Pair) (numbers : List ℕ) (x : Pair) → AreRising pairs numbers → IsRising (λ n. pair_cmp (pair_at pairs n) x) numbers
rising-sought pairs numbers x h = record {
  rising = λ i j d l within.
      elim (cases_order i j) [
        | inl e ↦ let f : ordering_index (pair_cmp (pair_at pairs (get_or numbers i d)) x)
            ≡ ordering_index (pair_cmp (pair_at pairs (get_or numbers j d)) x) =
            ap (λ k. ordering_index (pair_cmp (pair_at pairs (get_or numbers k d)) x)) e in omega (arith, f)
        | inr c ↦
            elim c [
              | inl b ↦ index-rises (pair_at pairs (get_or numbers i d)) (pair_at pairs (get_or numbers j d)) x
                  (h i j d b within) (pair_cmp (pair_at pairs (get_or numbers j d)) x) refl
              | inr b ↦ absurd (omega (arith, b, l))
            ]
      ];
}

-- ---- one more pair

-- a place among numbers that rise under a test takes what fits there
module _ (R : ℕ → ℕ → Type 0) (numbers : List ℕ) (place x : ℕ) (within : place ≤ length numbers)
    (before : (k : ℕ) → k < place → R (get_or numbers k 0) x) (after : (k : ℕ) → place ≤ k → k < length numbers
    → R x (get_or numbers k 0)) (h : AllPairs R numbers) where
  -- A place within the list reads the same with any default.
  at_zero : (k : ℕ) (d : ℕ) → k < length (insert numbers place x) → get_or (insert numbers place x) k d ≡ get_or (insert numbers place x) k 0
  at_zero k d l = get_or_default (insert numbers place x) k d 0 l

  -- Any two numbers of the longer list are ordered as the test wants.
  in_place : (i j : ℕ) → i < j → j < length (insert numbers place x) → R (get_or (insert numbers place x) i 0) (get_or (insert numbers place x) j 0)
  in_place i j l last =
      let size = length-insert numbers place x within in
      elim (cases_order j place) [
        | inl e ↦
            subst (λ a. R a (get_or (insert numbers place x) j 0)) (sym (get_or-insert_below numbers place x 0 i (omega (arith, l, e)) within))
            (subst (R (get_or numbers i 0))
            (sym (ap (λ k. get_or (insert numbers place x) k 0) e ∙ get_or-insert_at numbers place x 0 within))
            (before i (omega (arith, l, e))))
        | inr c ↦
            elim c [
              | inl b ↦
                  subst (λ a. R a (get_or (insert numbers place x) j 0)) (sym (get_or-insert_below numbers place x 0 i (omega (arith, l, b)) within))
                  (subst (R (get_or numbers i 0)) (sym (get_or-insert_below numbers place x 0 j b within)) (h i j 0 l (omega (arith, b, within))))
              | inr b ↦
                  let j_is : j ≡ (j - 1) + 1 = omega (arith, b) in
                  let second : get_or (insert numbers place x) j 0 ≡ get_or numbers (j - 1) 0 =
                  ap (λ k. get_or (insert numbers place x) k 0) j_is
                  ∙ get_or-insert_above numbers place x 0 (j - 1) (omega (arith, b)) within in
                  let end : j - 1 < length numbers = omega (arith, last, size, b) in
                  subst (R (get_or (insert numbers place x) i 0)) (sym second)
                  (elim (cases_order i place) [
                    | inl e ↦
                        subst (λ a. R a (get_or numbers (j - 1) 0))
                        (sym (ap (λ k. get_or (insert numbers place x) k 0) e
                        ∙ get_or-insert_at numbers place x 0 within)) (after (j - 1) (omega (arith, b)) end)
                    | inr f ↦
                        elim f [
                          | inl g ↦ subst (λ a. R a (get_or numbers (j - 1) 0))
                              (sym (get_or-insert_below numbers place x 0 i g within))
                              (h i (j - 1) 0 (omega (arith, g, b)) end)
                          | inr g ↦
                              let i_is : i ≡ (i - 1) + 1 = omega (arith, g) in
                              subst (λ a. R a (get_or numbers (j - 1) 0))
                              (sym (ap (λ k. get_or (insert numbers place x) k 0) i_is
                              ∙ get_or-insert_above numbers place x 0 (i - 1) (omega (arith, g)) within))
                              (h (i - 1) (j - 1) 0 (omega (arith, l, g)) end)
                        ]
                  ])
            ]
      ]

  -- So the longer list rises under the test.
  pub AllPairs-insert : AllPairs R (insert numbers place x)
  AllPairs-insert i j d l last =
      subst (λ a. R a (get_or (insert numbers place x) j d)) (sym (at_zero i d (omega (arith, l, last))))
      (subst (R (get_or (insert numbers place x) i 0)) (sym (at_zero j d last)) (in_place i j l last))

-- ---- one number for each different pair

-- What is read within the list is there.
pair-from_at : (pairs : List Pair) (n : ℕ) (q : Pair) → n < length pairs → pair_at pairs n ≡ q → slice_get pairs n ≡ Some q
pair-from_at pairs n q l e = slice_get-get_or pairs n no_documents l ∙ ap (λ (p : Pair). Some p) e

module _ (pairs : List Pair) (p : DocumentTableView) (h : IsDocumentTable pairs p) where
  -- Two numbers in order with one pair are one number.
  pub pairing-once : (a b : ℕ) (q : Pair) → Contains p.numbers a → Contains p.numbers b → slice_get pairs a ≡ Some q → slice_get pairs b ≡ Some q → a ≡ b
  pairing-once a b q ca cb ea eb =
      let fa : pair_at pairs a ≡ q = get_or_from_slice_get pairs a q no_documents ea in
      let fb : pair_at pairs b ≡ q = get_or_from_slice_get pairs b q no_documents eb in
      let na : get_or p.numbers ca.0 0 ≡ a = get_or_default p.numbers ca.0 0 a ca.1 ∙ ca.2 in
      let nb : get_or p.numbers cb.0 0 ≡ b = get_or_default p.numbers cb.0 0 b cb.1 ∙ cb.2 in
      let tied : pair_cmp q q ≡ Equal = tied_itself pair-total q in
      elim (cases_order ca.0 cb.0) [
        | inl e ↦ sym na ∙ ap (λ k. get_or p.numbers k 0) e ∙ nb
        | inr c ↦
            elim c [
              | inl l ↦
                  let less : pair_cmp q q ≡ Less =
                  subst (λ x. pair_cmp x q ≡ Less) (ap (pair_at pairs) na ∙ fa)
                  (subst (λ x. pair_cmp (pair_at pairs (get_or p.numbers ca.0 0)) x ≡ Less)
                  (ap (pair_at pairs) nb ∙ fb) (h.rising ca.0 cb.0 0 l cb.1))
                  in
                  let both : Less ≡ Equal = sym less ∙ tied in absurd (cc)
              | inr l ↦
                  let less : pair_cmp q q ≡ Less =
                  subst (λ x. pair_cmp x q ≡ Less) (ap (pair_at pairs) nb ∙ fb)
                  (subst (λ x. pair_cmp (pair_at pairs (get_or p.numbers cb.0 0)) x ≡ Less)
                  (ap (pair_at pairs) na ∙ fa) (h.rising cb.0 ca.0 0 l ca.1))
                  in
                  let both : Less ≡ Equal = sym less ∙ tied in absurd (cc)
            ]
      ]

  -- A number in order whose pair ties with another has that pair.
  pub pair-at_equal : (n : ℕ) (q : Pair) → Contains p.numbers n → IsBundle q.document → pair_cmp (pair_at pairs n) q ≡ Equal → slice_get pairs n ≡ Some q
  pair-at_equal n q c f e =
      let l : n < length pairs = All-contains (λ k. k < length pairs) p.numbers n h.within c in
      let form : IsBundle (pair_at pairs n).document = h.forms n no_documents l in
      pair-from_at pairs n q l (pair-exact (pair_at pairs n) q form f e)

  -- The flag of the number that the search finds says whether the pair is raised.
  pub raised-found : (place number : ℕ) (q : Pair) (flag : Bool) → IsBundle q.document
      → IsFound (λ n. pair_cmp (pair_at pairs n) q) p.numbers place
      → number ≡ get_or p.numbers place 0 → flag ≡ is_raised (flags_of p.counts) number
      → (flag ≡ true) ↔ HasRaised pairs p q
  raised-found place number q flag f found is says =
      let has : Contains p.numbers number = (place, found.within, get_or_default p.numbers place number 0 found.within ∙ sym is) in
      let at = pair-at_equal number q has f (subst (λ n. pair_cmp (pair_at pairs n) q ≡ Equal) (sym is) (found.here 0)) in (
        λ e. record { number = number; has = has; at = at; raised = sym says ∙ e },
        λ r. says ∙ ap (λ n. is_raised (flags_of p.counts) n)
            (pairing-once number r.number q has r.has at r.at) ∙ r.raised,
      )

  -- A pair that the search does not find is not raised.
  pub raised-missing : (place : ℕ) (q : Pair) → IsMissing (λ n. pair_cmp (pair_at pairs n) q) p.numbers place → HasRaised pairs p q → ⊥
  raised-missing place q m r =
      let tied : pair_cmp (pair_at pairs (get_or p.numbers r.has.0 r.number)) q ≡ Equal =
      subst (λ n. pair_cmp (pair_at pairs n) q ≡ Equal) (sym r.has.2)
      (subst (λ x. pair_cmp x q ≡ Equal) (sym (get_or_from_slice_get pairs r.number q no_documents r.at))
      (tied_itself pair-total q))
      in
      elim (cases_lt r.has.0 place) [
        | inl l ↦ let f : Less ≡ Equal = sym (m.before r.has.0 r.number (omega arith) l) ∙ tied in absurd (cc)
        | inr l ↦ let f : Greater ≡ Equal = sym (m.after r.has.0 r.number l r.has.1) ∙ tied in absurd (cc)
      ]

-- ---- one more node

-- What holds of all numbers, and of one more, holds after it is inserted.
All-insert : {A : Type 0} (P : A → Type 0) (xs : List A) (i : ℕ) (x : A) → All P xs → P x → All P (insert xs i x)
All-insert P xs i x h p = All-append P (take i xs) (x ∷ drop i xs) (All-take P i xs h) (All-cons P x (drop i xs) p (All-drop P i xs h))

-- The number that is inserted is there.
Contains-insert : {A : Type 0} (xs : List A) (i : ℕ) (x : A) → Contains (insert xs i x) x
Contains-insert xs i x = Contains-append_right (take i xs) (x ∷ drop i xs) x (0, omega arith, refl)

-- The numbers that were there still are.
Contains-insert_old : {A : Type 0} (xs : List A) (i : ℕ) (x y : A) → Contains xs y → Contains (insert xs i x) y
Contains-insert_old xs i x y c =
    elim (Contains-append_cases (take i xs) (drop i xs) y (subst (λ ys. Contains ys y) (sym (take-append-drop i xs)) c)) [
      | inl a ↦ Contains-append_left (take i xs) (x ∷ drop i xs) y a
      | inr b ↦ Contains-append_right (take i xs) (x ∷ drop i xs) y (suc b.0, omega (arith, b.1), b.2)
    ]

module _ (pairs : List Pair) (q : Pair) where
  -- An old number keeps its pair, with a default.
  at-left : (n : ℕ) → n < length pairs → pair_at (pairs ++ q ∷ []) n ≡ pair_at pairs n
  at-left n l = get_or_append_left pairs (q ∷ []) no_documents n l

  -- An old number keeps its pair.
  get-left : (n : ℕ) → n < length pairs → slice_get (pairs ++ q ∷ []) n ≡ slice_get pairs n
  get-left n l =
      slice_get-get_or (pairs ++ q ∷ []) n no_documents (omega (arith, l, length_push pairs q))
      ∙ ap (λ (p : Pair). Some p) (at-left n l) ∙ sym (slice_get-get_or pairs n no_documents l)

  -- The new number has the new pair, with a default.
  at-last : (n : ℕ) → n ≡ length pairs → pair_at (pairs ++ q ∷ []) n ≡ q
  at-last n e = get_or_push pairs q no_documents n (sym e)

  -- The new number has the new pair.
  get-last : (n : ℕ) → n ≡ length pairs → slice_get (pairs ++ q ∷ []) n ≡ Some q
  get-last n e = slice_get-get_or (pairs ++ q ∷ []) n no_documents (omega (arith, e, length_push pairs q)) ∙ ap (λ (p : Pair). Some p) (at-last n e)

  -- Old pairs compare as they did.
  rises-still : (i j : ℕ) → i < length pairs → j < length pairs → pair_cmp (pair_at pairs i) (pair_at pairs j) ≡ Less
      → pair_cmp (pair_at (pairs ++ q ∷ []) i) (pair_at (pairs ++ q ∷ []) j) ≡ Less
  rises-still i j k l e =
      subst (λ x. pair_cmp x (pair_at (pairs ++ q ∷ []) j) ≡ Less) (sym (at-left i k)) (subst (λ x. pair_cmp (pair_at pairs i) x ≡ Less) (sym (at-left j l)) e)

  -- the numbers in order, whether the pair was there or has come
  pub record HasMore (old new : List ℕ) (first : ℕ) : Type 0 where
    pub within : All (λ n. n < length (pairs ++ q ∷ [])) new
    pub few : length new ≤ length (pairs ++ q ∷ [])
    pub rising : AreRising (pairs ++ q ∷ []) new
    pub kept : (n : ℕ) → Contains old n → Contains new n
    pub has : Contains new first
    pub at : slice_get (pairs ++ q ∷ []) first ≡ Some q

  module _ (p : DocumentTableView) (h : IsDocumentTable pairs p) (form : IsBundle q.document) where
    -- The old numbers are numbers of the longer list.
    more-within : All (λ n. n < length (pairs ++ q ∷ [])) p.numbers
    more-within = All-weaker (λ n. n < length pairs) (λ n. n < length (pairs ++ q ∷ [])) (λ n l. omega (arith, l, length_push pairs q)) p.numbers h.within

    -- The old numbers are still in order.
    more-rising : AreRising (pairs ++ q ∷ []) p.numbers
    more-rising i j d l last =
        rises-still (get_or p.numbers i d) (get_or p.numbers j d) (h.within i d (omega (arith, l, last)))
        (h.within j d last) (h.rising i j d l last)

    -- The numbers in order have the new pair's first number.
    has-more : (number first : ℕ) (new : List ℕ) → number ≡ length pairs → PutsFirst pairs q number p.numbers new first → HasMore p.numbers new first
    has-more number first new e puts =
        elim puts [
          | inl old ↦
              let at = pair-at_equal pairs p h first q old.1 form old.2 in
              record {
                within = subst (All (λ n. n < length (pairs ++ q ∷ []))) (sym old.0) more-within;
                few = omega (arith, h.few, length_push pairs q, ap length old.0);
                rising = subst (AreRising (pairs ++ q ∷ [])) (sym old.0) more-rising;
                kept = λ n c. subst (λ ns. Contains ns n) (sym old.0) c;
                has = subst (λ ns. Contains ns first) (sym old.0) old.1;
                at = get-left first (slice_get_within pairs first q at) ∙ at;
              }
          | inr put ↦
              let place = put.1.0 in
              let list : new ≡ insert p.numbers place number = put.1.1 in
              let missing = put.1.2 in
              let is : first ≡ length pairs = put.0 ∙ e in
              record {
                within = subst (All (λ n. n < length (pairs ++ q ∷ []))) (sym list)
                    (All-insert (λ n. n < length (pairs ++ q ∷ [])) p.numbers place number more-within
                    (omega (arith, e, length_push pairs q)));
                few = omega (arith, h.few, length_push pairs q, ap length list, length-insert p.numbers place number missing.within);
                rising = subst (AreRising (pairs ++ q ∷ [])) (sym list)
                    (AllPairs-insert (λ i j. pair_cmp (pair_at (pairs ++ q ∷ []) i) (pair_at (pairs ++ q ∷ []) j) ≡ Less) p.numbers place number missing.within
                    (λ k l.
                    let small : get_or p.numbers k 0 < length pairs = h.within k 0 (omega (arith, l, missing.within)) in
                    subst (λ x. pair_cmp x (pair_at (pairs ++ q ∷ []) number) ≡ Less) (sym (at-left (get_or p.numbers k 0) small))
                    (subst (λ x. pair_cmp (pair_at pairs (get_or p.numbers k 0)) x ≡ Less) (sym (at-last number e)) (missing.before k 0 (omega arith) l)))
                    (λ k l last.
                    let small : get_or p.numbers k 0 < length pairs = h.within k 0 last in
                    subst (λ x. pair_cmp x (pair_at (pairs ++ q ∷ []) (get_or p.numbers k 0)) ≡ Less) (sym (at-last number e))
                    (subst (λ x. pair_cmp q x ≡ Less) (sym (at-left (get_or p.numbers k 0) small))
                    (pair-total.antisymm q (pair_at pairs (get_or p.numbers k 0)) ∙ ap ordering_reverse (missing.after k 0 l last))))
                    more-rising);
                kept = λ n c. subst (λ ns. Contains ns n) (sym list) (Contains-insert_old p.numbers place number n c);
                has = subst (λ ns. Contains ns first) (sym list)
                    (subst (λ k. Contains (insert p.numbers place number) k) (sym put.0)
                    (Contains-insert p.numbers place number));
                at = get-last first is;
              }
        ]

-- After one more node each pair still has its first number.
pub pairing-more : (pairs : List Pair) (old new : DocumentTableView) (q : Pair) (number first : ℕ)
    → IsDocumentTable pairs old → IsBundle q.document → number ≡ length old.heads
    → PutsFirst pairs q number old.numbers new.numbers first → new.heads ≡ old.heads ++ first ∷ []
    → new.counts ≡ old.counts ++ 0 ∷ [] → IsDocumentTable (pairs ++ q ∷ []) new
pairing-more pairs old new q number first h form e puts heads counts =
    let m = has-more pairs q old h form number first new.numbers (e ∙ h.sizes) puts in
    record {
      sizes = omega (arith, ap length heads, length_push old.heads first, length_push pairs q, h.sizes);
      counted = omega (
        arith,
        ap length counts,
        length_push old.counts 0,
        length_push pairs q,
        h.counted,
      );
      forms = All-push (λ (x : Pair). IsBundle x.document) pairs q h.forms form;
      within = m.within;
      few = m.few;
      rising = m.rising;
      first = λ node k at.
          elim (slice_get-push_cases old.heads first node k (subst (λ fs. slice_get fs node ≡ Some k) heads at)) [
            | inl a ↦
                let before = h.first node k a.1 in
                let l : k < length pairs = All-contains (λ n. n < length pairs) old.numbers k h.within before.0 in
                (m.kept k before.0, get-left pairs q k l ∙ before.1 ∙ sym (get-left pairs q node (omega (arith, a.0, h.sizes))))
            | inr a ↦
                (subst (Contains new.numbers) a.1 m.has, ap (λ n. slice_get (pairs ++ q ∷ []) n) (sym a.1) ∙ m.at ∙ sym (get-last pairs q node (a.0 ∙ h.sizes)))
          ];
    }

-- The same number of other counts leaves each pair its number.
pub pairing-counts : (pairs : List Pair) (p q : DocumentTableView) → IsDocumentTable pairs p → q.numbers ≡ p.numbers
    → q.heads ≡ p.heads → length q.counts ≡ length p.counts → IsDocumentTable pairs q
pairing-counts pairs p q h numbers heads counts =
    let one : IsDocumentTable pairs (record {
      numbers = p.numbers;
      heads = p.heads;
      counts = q.counts;
      capacity = q.capacity;
    }) =
    record {
      sizes = h.sizes;
      counted = counts
          ∙ h.counted;
      forms = h.forms;
      within = h.within;
      few = h.few;
      rising = h.rising;
      first =
          h.first;
    }
    in
    subst (λ ns. IsDocumentTable pairs (record {
      numbers = ns;
      heads = q.heads;
      counts = q.counts;
      capacity = q.capacity;
    })) (sym numbers)
    (subst (λ fs. IsDocumentTable pairs (record {
      numbers = p.numbers;
      heads = fs;
      counts = q.counts;
      capacity = q.capacity;
    })) (sym heads) one)
