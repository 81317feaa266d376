-- Sets that are kept as strictly sorted lists
use Rattle.std.proofs.Common.{◌≡◌, ℕ, zero, suc, ◌+◌, ◌<◌, ◌≤◌, ◌⊎◌, inl, inr, List, [], ◌∷◌, length, get_or, false}
use Rattle.std.proofs.Common.{add-one, Less, Equal, Greater, refl, sym, ap, ap₂, ◌∙◌, subst, arith}
use Rattle.std.specs.Cmp.{IsTotalOrder}
use Rattle.std.specs.Ordering.{ordering_reverse, ordering_index, is_lt}
use Rattle.std.specs.declared.cmp.Ordering.{Ordering}
use Rattle.std.specs.List.{AllByRecursion, AllWithin, Contains, insert}
use Rattle.std.specs.List.Sorted.{IsStrictlySortedBy, IsSorted, IsNonDecreasingBy}
use Rattle.std.proofs.lemmas.Cmp.{tied_itself}
use Rattle.std.proofs.lemmas.List.Sorted.{searchable_from_sorted}
use Rattle.std.proofs.lemmas.List.Elements.{All-from_recursion, All-contains}
use Rattle.receipt_core.specs.Rising.{placed, with_item, with_items}
use Rattle.closure_core.proofs.ContainsFacts.{contains_first, contains_later, contains_none, contains_cases}

-- What holds of all items holds of one that the list contains.
pub each_has : {X : Type 0} (P : X → Type 0) (xs : List X) (x : X) → AllByRecursion P xs → Contains xs x → P x
each_has P xs x all has = All-contains P xs x (All-from_recursion P xs all) has

-- What holds of each item that the list contains holds of all, step by step.
pub each_from : {X : Type 0} (P : X → Type 0) (xs : List X) → ((x : X) → Contains xs x → P x) → AllByRecursion P xs
each_from P [] all = tt
each_from P (y ∷ ys) all = (all y (contains_first y ys), each_from P ys (λ x h. all x (contains_later y ys x h)))

module _ {X : Type 0} {R : X → X → Ordering} (o : IsTotalOrder R) where
  -- the item is below each of these
  abbrev pub Below : X → List X → Type 0
  Below x others = AllByRecursion (λ y. R x y ≡ Less) others

  -- No item is below itself.
  not_below_itself : (x : X) → R x x ≡ Less → ⊥
  not_below_itself x h = let same = tied_itself o x in cc

  -- No two items are each below the other.
  not_both : (x y : X) → R x y ≡ Less → R y x ≡ Less → ⊥
  not_both x y p q = let above : R x y ≡ Greater = o.antisymm x y ∙ ap ordering_reverse q in cc

  -- An item that is below all others of a list is not among them.
  pub not_again : (x : X) (others : List X) → Below x others → Contains others x → ⊥
  not_again x others h has = not_below_itself x (each_has _ others x h has)

  -- Two strictly sorted lists with the same items begin with the same one.
  same_first : (x y : X) (others more : List X) → Below x others → Below y more → Contains (y ∷ more) x → Contains (x ∷ others) y → x ≡ y
  same_first x y others more p q there back = elim (contains_cases y more x there) [
    | inl e ↦ sym e
    | inr here ↦ elim (contains_cases x others y back) [
      | inl e ↦ e
      | inr again ↦ absurd (not_both x y (each_has _ others y p again) (each_has _ more x q here))
    ]
  ]

  -- If a list with the same first item has all items, its rest has all of the rest.
  tail_has : (x z : X) (others more : List X) → Below x others
      → ((y : X) → Contains (x ∷ others) y → Contains (x ∷ more) y) → Contains others z → Contains more z
  tail_has x z others more below all has = elim (contains_cases x more z (all z (contains_later x others z has))) [
    | inl e ↦ absurd (not_again x others below (subst (Contains others) (sym e) has))
    | inr there ↦ there
  ]

  -- Two strictly sorted lists with the same items are equal: a set is kept as one list.
  pub rising_same : (xs ys : List X) → IsStrictlySortedBy R xs → IsStrictlySortedBy R ys
      → ((x : X) → Contains xs x → Contains ys x) → ((x : X) → Contains ys x → Contains xs x) → xs ≡ ys
  unfolding IsStrictlySortedBy
  rising_same [] [] p q there back = refl
  rising_same [] (y ∷ ys) p q there back = absurd (contains_none y (back y (contains_first y ys)))
  rising_same (x ∷ xs) [] p q there back = absurd (contains_none x (there x (contains_first x xs)))
  rising_same (x ∷ xs) (y ∷ ys) p q there back =
      let first : x ≡ y = same_first x y xs ys p.0 q.0 (there x (contains_first x xs)) (back y (contains_first y ys)) in
      let forward : (z : X) → Contains (x ∷ xs) z → Contains (x ∷ ys) z = λ z h. subst (λ w. Contains (w ∷ ys) z) (sym first) (there z h) in
      let backward : (z : X) → Contains (x ∷ ys) z → Contains (x ∷ xs) z = λ z h. back z (subst (λ w. Contains (w ∷ ys) z) first h) in
      let below : Below x ys = subst (λ w. Below w ys) (sym first) q.0 in
      ap₂ (λ z l. z ∷ l) first
      (rising_same xs ys p.1 q.1 (λ z. tail_has x z xs ys p.0 forward) (λ z. tail_has x z ys xs below backward))

  -- ---- one item more

  -- One step of `with_item_has`, for each order of the new item and the first.
  placed_has : (r : Ordering) (x h y : X) (t longer : List X) → Contains (placed r x h t longer) y
      → (Contains longer y → (x ≡ y) ⊎ Contains t y) → (x ≡ y) ⊎ Contains (h ∷ t) y
  placed_has Less x h y t longer has rest = contains_cases x (h ∷ t) y has
  placed_has Equal x h y t longer has rest = inr has
  placed_has Greater x h y t longer has rest = elim (contains_cases h longer y has) [
    | inl e ↦ inr (subst (Contains (h ∷ t)) e (contains_first h t))
    | inr later ↦ elim (rest later) [
      | inl e ↦ inl e
      | inr old ↦ inr (contains_later h t y old)
    ]
  ]

  -- Adding an item adds nothing else.
  pub with_item_has : (x : X) (xs : List X) (y : X) → Contains (with_item R x xs) y → (x ≡ y) ⊎ Contains xs y
  with_item_has x [] y has = contains_cases x [] y has
  with_item_has x (h ∷ t) y has = placed_has (R x h) x h y t (with_item R x t) has (with_item_has x t y)

  -- One step of `with_item_keeps`, for each order of the new item and the first.
  placed_keeps : (r : Ordering) (x h y : X) (t longer : List X) → Contains (h ∷ t) y → (Contains t y → Contains longer y) → Contains (placed r x h t longer) y
  placed_keeps Less x h y t longer has rest = contains_later x (h ∷ t) y has
  placed_keeps Equal x h y t longer has rest = has
  placed_keeps Greater x h y t longer has rest = elim (contains_cases h t y has) [
    | inl e ↦ subst (Contains (h ∷ longer)) e (contains_first h longer)
    | inr old ↦ contains_later h longer y (rest old)
  ]

  -- Adding an item loses none.
  pub with_item_keeps : (x : X) (xs : List X) (y : X) → Contains xs y → Contains (with_item R x xs) y
  with_item_keeps x [] y has = absurd (contains_none y has)
  with_item_keeps x (h ∷ t) y has = placed_keeps (R x h) x h y t (with_item R x t) has (with_item_keeps x t y)

  -- One step of `with_item_gets`, for each order of the new item and the first.
  placed_gets : (r : Ordering) (x h : X) (t longer : List X) → (r ≡ Equal → x ≡ h) → Contains longer x → Contains (placed r x h t longer) x
  placed_gets Less x h t longer same rest = contains_first x (h ∷ t)
  placed_gets Equal x h t longer same rest = subst (Contains (h ∷ t)) (sym (same refl)) (contains_first h t)
  placed_gets Greater x h t longer same rest = contains_later h longer x rest

  -- The added item is there afterwards, if the order distinguishes what differs.
  pub with_item_gets : (x : X) (xs : List X) → ((y : X) → Contains xs y → R x y ≡ Equal → x ≡ y) → Contains (with_item R x xs) x
  with_item_gets x [] exact = contains_first x []
  with_item_gets x (h ∷ t) exact =
      placed_gets (R x h) x h t (with_item R x t) (exact h (contains_first h t)) (with_item_gets x t (λ y has. exact y (contains_later h t y has)))

  -- What is above an item has that item below it.
  turned : (x y : X) → R x y ≡ Greater → R y x ≡ Less
  turned x y e = o.antisymm y x ∙ ap ordering_reverse e

  -- What is below an item has that item above it.
  pub turned_less : (x y : X) → R x y ≡ Less → R y x ≡ Greater
  turned_less x y e = o.antisymm y x ∙ ap ordering_reverse e

  -- One step of `with_item_rising`, for each order of the new item and the first.
  placed_rising : (r : Ordering) (x h : X) (t longer : List X) → R x h ≡ r → IsStrictlySortedBy R (h ∷ t)
      → IsStrictlySortedBy R longer → ((y : X) → Contains longer y → (x ≡ y) ⊎ Contains t y)
      → IsStrictlySortedBy R (placed r x h t longer)
  unfolding IsStrictlySortedBy
  placed_rising Less x h t longer e rising rest only =
      ((e, each_from (λ y. R x y ≡ Less) t (λ y has. o.trans x h y e (each_has (λ z. R h z ≡ Less) t y rising.0 has))), rising)
  placed_rising Equal x h t longer e rising rest only = rising
  placed_rising Greater x h t longer e rising rest only = (
    each_from (λ y. R h y ≡ Less) longer (λ y has. elim (only y has) [
      | inl same ↦ subst (λ z. R h z ≡ Less) same (turned x h e)
      | inr old ↦ each_has (λ z. R h z ≡ Less) t y rising.0 old
    ]),
    rest,
  )

  -- Adding an item keeps a list strictly sorted.
  pub with_item_rising : (x : X) (xs : List X) → IsStrictlySortedBy R xs → IsStrictlySortedBy R (with_item R x xs)
  unfolding IsStrictlySortedBy
  with_item_rising x [] rising = (tt, tt)
  with_item_rising x (h ∷ t) rising = placed_rising (R x h) x h t (with_item R x t) refl rising (with_item_rising x t rising.1) (with_item_has x t)

  -- One step of `with_item_longer`, for each order of the new item and the first.
  placed_length : (r : Ordering) (x h : X) (t longer : List X) → length longer ≤ length t + 1 → length (placed r x h t longer) ≤ length t + 2
  placed_length Less x h t longer rest = omega arith
  placed_length Equal x h t longer rest = omega arith
  placed_length Greater x h t longer rest = omega arith

  -- Adding an item makes a list longer by one at most: this keeps the limits in sight.
  pub with_item_longer : (x : X) (xs : List X) → length (with_item R x xs) ≤ length xs + 1
  with_item_longer x [] = omega arith
  with_item_longer x (h ∷ t) = let rest = placed_length (R x h) x h t (with_item R x t) (with_item_longer x t) in omega arith

  -- ---- an item goes into its gap

  -- The step that adds an item may be computed with the known outcome of the comparison.
  gap_step : (x h : X) (t longer : List X) (r : Ordering) → R x h ≡ r → placed (R x h) x h t longer ≡ placed r x h t longer
  gap_step x h t longer r e = ap (λ s. placed s x h t longer) e

  -- An item is added by putting it at the place with all before below it and all after above it: so
  -- a binary search finds its place.
  pub with_item_at : (x : X) (xs : List X) (n : ℕ) → n ≤ length xs → AllWithin (λ y. R y x ≡ Less) xs 0 n
      → AllWithin (λ y. R y x ≡ Greater) xs n (length xs) → with_item R x xs ≡ insert xs n x
  with_item_at x [] zero within before after = refl
  with_item_at x [] (suc n) within before after = absurd (omega arith)
  with_item_at x (h ∷ t) zero within before after =
      gap_step x h t (with_item R x t) Less (turned h x (after 0 h (omega arith) (omega arith)))
  with_item_at x (h ∷ t) (suc n) within before after =
      let first : R x h ≡ Greater = turned_less h x (before 0 h (omega arith) (omega arith)) in
      let rest : with_item R x t ≡ insert t n x =
      with_item_at x t n (omega arith) (λ k d low high. before (suc k) d (omega arith) (omega arith))
      (λ k d low high. after (suc k) d (omega arith) (omega arith)) in
      gap_step x h t (with_item R x t) Greater first ∙ ap (λ ys. h ∷ ys) rest

  -- ---- a strictly sorted list is sorted

  -- What is above an item is not less than it, as a sorted list says it.
  falls_back : (x y : X) → R x y ≡ Less → is_lt (R y x) ≡ false
  falls_back x y below = ap is_lt (turned_less x y below)

  -- Each item of a strictly sorted list is not less than the one before it.
  sorted_at : (xs : List X) (k : ℕ) (d : X) → IsStrictlySortedBy R xs → suc k < length xs → is_lt (R (get_or xs (suc k) d) (get_or xs k d)) ≡ false
  unfolding IsStrictlySortedBy
  sorted_at [] k d rising below = absurd (omega arith)
  sorted_at (x ∷ []) k d rising below = absurd (omega arith)
  sorted_at (x ∷ y ∷ ys) zero d rising below = falls_back x y rising.0.0
  sorted_at (x ∷ y ∷ ys) (suc k) d rising below = sorted_at (y ∷ ys) k d rising.1 (omega arith)

  -- A strictly sorted list is sorted, as the standard library's searches want it.
  pub sorted : (xs : List X) → IsStrictlySortedBy R xs → IsSorted R xs
  sorted xs rising k d low below = subst (λ n. is_lt (R (get_or xs n d) (get_or xs k d)) ≡ false) (sym (add-one k)) (sorted_at xs k d rising (omega arith))

  -- In a strictly sorted list the items below one that is sought come first, and those above it
  -- last.
  pub sought : (xs : List X) (x : X) → IsStrictlySortedBy R xs → IsNonDecreasingBy (λ y. ordering_index (R y x)) xs
  sought xs x rising = searchable_from_sorted o (λ y. y) xs x (sorted xs rising)

  -- ---- many items more

  -- Adding many items loses none.
  pub with_items_keeps : (items set : List X) (y : X) → Contains set y → Contains (with_items R items set) y
  with_items_keeps [] set y has = has
  with_items_keeps (i ∷ items) set y has = with_items_keeps items (with_item R i set) y (with_item_keeps i set y has)

  -- Adding many items adds nothing else.
  pub with_items_has : (items set : List X) (y : X) → Contains (with_items R items set) y → Contains items y ⊎ Contains set y
  with_items_has [] set y has = inr has
  with_items_has (i ∷ items) set y has = elim (with_items_has items (with_item R i set) y has) [
    | inl more ↦ inl (contains_later i items y more)
    | inr first ↦ elim (with_item_has i set y first) [
      | inl e ↦ inl (subst (Contains (i ∷ items)) e (contains_first i items))
      | inr old ↦ inr old
    ]
  ]

  -- All added items are there afterwards, if the order distinguishes what has the property.
  pub with_items_gets : (P : X → Type 0) → ((x y : X) → P x → P y → R x y ≡ Equal → x ≡ y) → (items set : List X)
      → ((x : X) → Contains items x → P x) → ((x : X) → Contains set x → P x) → (x : X) → Contains items x
      → Contains (with_items R items set) x
  with_items_gets P exact [] set all those x has = absurd (contains_none x has)
  with_items_gets P exact (i ∷ items) set all those x has =
      let here : Contains (with_item R i set) i = with_item_gets i set (λ y old. exact i y (all i (contains_first i items)) (those y old)) in
      let each : (y : X) → Contains (with_item R i set) y → P y = λ y got. elim (with_item_has i set y got) [
        | inl e ↦ subst P e (all i (contains_first i items))
        | inr old ↦ those y old
      ] in
      elim (contains_cases i items x has) [
        | inl e ↦ subst (Contains (with_items R items (with_item R i set))) e (with_items_keeps items (with_item R i set) i here)
        | inr later ↦ with_items_gets P exact items (with_item R i set) (λ y more. all y (contains_later i items y more)) each x later
      ]

  -- Adding many items keeps a list strictly sorted.
  pub with_items_rising : (items set : List X) → IsStrictlySortedBy R set → IsStrictlySortedBy R (with_items R items set)
  with_items_rising [] set rising = rising
  with_items_rising (i ∷ items) set rising = with_items_rising items (with_item R i set) (with_item_rising i set rising)
