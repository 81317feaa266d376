-- The labels of a key are one run of the order
use Rattle.std.proofs.Common.{◌≡◌, ℕ, suc, ◌<◌, ◌≤◌, inl, inr, ◌⊎◌, Bool, true, false, cond, List, [], ◌∷◌}
use Rattle.std.proofs.Common.{length, get_or, arith, refl, sym, ap, ◌∙◌, subst}
use Rattle.std.specs.Prelude.{Contains, ◌↔◌}
use Rattle.std.specs.declared.cmp.Ordering.{Ordering}
use Rattle.std.specs.declared.cmp.Ordering.TheVariants.{Less, Equal, Greater}
use Rattle.std.specs.Cmp.{IsTotalOrder}
use Rattle.std.specs.Cmp.Lexicographic.{slice_cmp}
use Rattle.std.specs.Ordering.{nat_cmp, ordering_then, ordering_index}
use Rattle.std.specs.List.{filter}
use Rattle.std.specs.List.Sorted.{IsPermutation}
use Rattle.std.proofs.lemmas.Bool.{cases_order}
use Rattle.std.proofs.lemmas.Cmp.{nat_cmp_total, nat_list_cmp_total, on_total, then_total, tied_itself, alike_right}
use Rattle.std.proofs.lemmas.List.Elements.{All-contains, All-contains_itself, All-filter, filter_passes, Contains-append_right}
use Rattle.std.proofs.lemmas.List.Sorted.{All-permutation, Contains-permutation, IsPermutation-sym}
use Rattle.std.proofs.lemmas.Map.Lookups.{exact_bytes, exact_unsigned}
use Rattle.std.proofs.lemmas.Option.{slice_get_within}
use Rattle.jwk_set.specs.declared.authority.KeyId.{KeyId}
use Rattle.sorted_order.specs.Sought.{IsRising, is_equal}
use Rattle.sorted_order.specs.ArenaView.{ArenaView, Arranges, compared_if, compared_at}
use Rattle.wait_index.proofs.NetLawFacts.{contains-cons}
use Rattle.label_index.specs.declared.label.Label.{Label}
use Rattle.label_index.specs.Labels.{label_cmp, cmp_to_key, IsInOrder, AreNumbersOf, IsOfKey}
use Rattle.label_index.proofs.LabelOrderFacts.{then-first}

-- ---- the labels of a key are together

-- the order of labels by domain and key, without the document
abbrev by_key : Label → Label → Ordering
by_key a b = ordering_then (nat_cmp a.domain b.domain) (slice_cmp nat_cmp a.key.0 b.key.0)

-- The order by key is total.
by_key-total : IsTotalOrder by_key
by_key-total =
    then_total (on_total (λ (l : Label). l.domain) nat_cmp_total)
    (on_total (λ (l : Label). l.key.0) nat_list_cmp_total)

-- What comes first by three comparisons does so by the first two, or ties there.
then-less : (a b c : Ordering) → ordering_then a (ordering_then b c) ≡ Less
    → (ordering_then a b ≡ Less) ⊎ (ordering_then a b ≡ Equal)
then-less Less b c e = inl refl
then-less Equal Less c e = inl refl
then-less Equal Equal c e = inr refl
then-less Equal Greater c e = absurd (cc)
then-less Greater b c e = absurd (cc)

-- A label before another compares to what is sought no greater than that.
rises-less : (a b x : Label) → by_key a b ≡ Less → (o : Ordering) → by_key b x ≡ o
    → ordering_index (by_key a x) ≤ ordering_index o
rises-less a b x l Less e =
    let f : by_key a x ≡ Less = by_key-total.trans a b x l e in omega (arith, ap ordering_index f)
rises-less a b x l Equal e =
    let f : by_key a x ≡ Less = sym (alike_right by_key-total b x a e) ∙ l in
    omega (arith, ap ordering_index f)
rises-less a b x l Greater e = most (by_key a x)
  where
    most : (o : Ordering) → ordering_index o ≤ 2
    most Less = omega arith
    most Equal = omega arith
    most Greater = omega arith

-- Labels in order rise by key.
rises-by_key : (a b x : Label) → label_cmp a b ≡ Less
    → ordering_index (by_key a x) ≤ ordering_index (by_key b x)
rises-by_key a b x l =
    let documents : Ordering = slice_cmp nat_cmp a.document.0 b.document.0 in
    elim (then-less (nat_cmp a.domain b.domain) (slice_cmp nat_cmp a.key.0 b.key.0) documents l) [
      | inl e ↦ rises-less a b x e (by_key b x) refl
      | inr e ↦ omega (arith, ap ordering_index (by_key-total.congr a b x e))
    ]

-- Labels in order rise for the search of a key in a domain.
pub key-rises : (labels : List Label) (domain : ℕ) (key : KeyId) → IsInOrder labels
    → IsRising (cmp_to_key domain key) labels
key-rises labels domain key h = record {
  rising = λ i j d l within.
      let first : Label = get_or labels i d in
      let second : Label = get_or labels j d in
      let placed : Label → ℕ = λ label. ordering_index (cmp_to_key domain key label) in
      let x : Label = record { domain = domain; document = d.document; key = key } in
      elim (cases_order i j) [
        | inl e ↦
            let f : placed first ≡ placed second = ap (λ k. placed (get_or labels k d)) e in
            omega (arith, f)
        | inr c ↦
            elim c [
              | inl b ↦ rises-by_key first second x (h i j d b within)
              | inr b ↦ absurd (omega (arith, b, l))
            ]
      ];
}

-- A label is in the place of the key exactly if it is one of the key.
pub of_key-compared : (domain : ℕ) (key : KeyId) (label : Label)
    → (cmp_to_key domain key label ≡ Equal) ↔ IsOfKey domain key label
of_key-compared domain key label = (from, to)
  where
    from : cmp_to_key domain key label ≡ Equal → IsOfKey domain key label
    from e =
        let keys = slice_cmp nat_cmp label.key.0 key.0 in
        let both = then-first (nat_cmp label.domain domain) keys e in (
          exact_unsigned label.domain domain both.0,
          ap (λ (bytes : List ℕ). let id : KeyId = record { 0 = bytes } in id)
              (exact_bytes label.key.0 key.0 both.1),
        )

    to : IsOfKey domain key label → cmp_to_key domain key label ≡ Equal
    to is =
        let keys : KeyId → Ordering = λ k. slice_cmp nat_cmp k.0 key.0 in
        ap (λ n. ordering_then (nat_cmp n domain) (keys label.key)) is.0
        ∙ ap (λ k. ordering_then (nat_cmp domain domain) (keys k)) is.1
        ∙ ap (λ o. ordering_then o (keys key)) (tied_itself nat_cmp_total domain)
        ∙ tied_itself nat_list_cmp_total key.0

-- ---- what is filtered

-- A number that passes is kept.
Contains-filter : (p : ℕ → Bool) (ns : List ℕ) (n : ℕ) → Contains ns n → p n ≡ true
    → Contains (filter p ns) n
Contains-filter p [] n c t = absurd (omega (arith, c.1))
Contains-filter p (m ∷ ms) n c t =
    elim (contains-cons m ms n c) [
      | inl e ↦
          subst (λ b. Contains (cond b (m ∷ filter p ms) (filter p ms)) n)
          (sym (ap p (sym e) ∙ t)) (0, omega arith, sym e)
      | inr d ↦ kept (p m) (Contains-filter p ms n d t)
    ]
  where
    kept : (b : Bool) → Contains (filter p ms) n
        → Contains (cond b (m ∷ filter p ms) (filter p ms)) n
    kept true h = Contains-append_right (m ∷ []) (filter p ms) n h
    kept false h = h

-- An item that is kept was there and passes.
Contains-from_filter : {X : Type 0} (p : X → Bool) (xs : List X) (x : X) → Contains (filter p xs) x
    → Contains xs x × (p x ≡ true)
Contains-from_filter p xs x c = (
  All-contains (Contains xs) (filter p xs) x
      (All-filter p (Contains xs) xs (All-contains_itself xs)) c,
  All-contains (λ y. p y ≡ true) (filter p xs) x (filter_passes p xs) c,
)

-- No more are kept than there were.
length-filtered : {X : Type 0} (p : X → Bool) (xs : List X) → length (filter p xs) ≤ length xs
length-filtered p [] = omega arith
length-filtered p (x ∷ xs) = one (p x) (length-filtered p xs)
  where
    one : (b : Bool) → length (filter p xs) ≤ length xs
        → length (cond b (x ∷ filter p xs) (filter p xs)) ≤ suc (length xs)
    one true h = omega (arith, h)
    one false h = omega (arith, h)

-- What the test of equality accepts is equal.
equal-from : (o : Ordering) → is_equal o ≡ true → o ≡ Equal
equal-from Less e = absurd (cc)
equal-from Equal e = refl
equal-from Greater e = absurd (cc)

-- ---- the numbers of the labels of a key

module _ (stock : ArenaView Label) (domain : ℕ) (key : KeyId) where
  -- how the label with the number compares to those of the key
  abbrev placed : ℕ → Ordering
  placed number = compared_at (cmp_to_key domain key) stock.items number

  -- whether the label with the number is one of the key
  abbrev test : ℕ → Bool
  test number = is_equal (placed number)

  -- No more labels are of the key than there are, so the list of those to be closed has room.
  pub key-fits : Arranges stock.order (length stock.items)
      → length (filter test stock.order) ≤ length stock.items
  key-fits h = omega (arith, length-filtered test stock.order, h.counted)

  -- The numbers that are filtered are exactly those of the key's labels.
  pub key-numbers : Arranges stock.order (length stock.items)
      → AreNumbersOf stock.items (IsOfKey domain key) (filter test stock.order)
  key-numbers h = record {
    within = All-filter test (λ number. number < length stock.items) stock.order h.within;
    exactly = λ number label at.
        let same : placed number ≡ cmp_to_key domain key label =
        ap (compared_if (cmp_to_key domain key)) at
        in
        let has : Contains stock.order number =
        h.each number (slice_get_within stock.items number label at)
        in
        let k = of_key-compared domain key label in (
          λ c.
              let kept = Contains-from_filter test stock.order number c in
              k.0 (sym same ∙ equal-from (placed number) kept.1),
          λ is. Contains-filter test stock.order number has (ap is_equal (same ∙ k.1 is)),
        );
  }

-- Sorted numbers are those of the same labels.
pub numbers-sorted : (labels : List Label) (IsMeant : Label → Type 0) (numbers sorted : List ℕ)
    → IsPermutation numbers sorted → AreNumbersOf labels IsMeant numbers
    → AreNumbersOf labels IsMeant sorted
numbers-sorted labels IsMeant numbers sorted p h = record {
  within = All-permutation (λ number. number < length labels) numbers sorted p h.within;
  exactly = λ number label at.
      let k = h.exactly number label at in (
        λ c. k.0 (Contains-permutation sorted numbers number (IsPermutation-sym numbers sorted p) c),
        λ is. Contains-permutation numbers sorted number p (k.1 is),
      );
}
