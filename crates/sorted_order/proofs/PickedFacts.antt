-- The items with some numbers, in the order of those
use Rattle.std.proofs.Common.{◌≡◌, ◌≢◌, inl, inr, ℕ, zero, suc, ◌+◌, ◌-◌, ◌<◌, ◌≤◌, List, [], ◌∷◌, ◌++◌, length, take}
use Rattle.std.proofs.Common.{drop, slice_index, slice_index_or, slice_get, Option, Some, None, Bool, true, false}
use Rattle.std.proofs.Common.{Result, Ok, Err, MatchOption, MatchResult, is_eq, refl, sym, ◌∙◌, ap, subst, arith}
use Rattle.std.proofs.Common.{length-append, cond}
use Rattle.std.proofs.lemmas.Bool.{cases_lt}
use Rattle.std.proofs.lemmas.List.{get_or_default}
use Rattle.std.proofs.lemmas.List.Edits.{length-insert, get_or-insert_below, get_or-insert_at, get_or-insert_above}
use Rattle.std.proofs.lemmas.List.Elements.{filter_map-append}
use Rattle.std.proofs.lemmas.Grind.{in_insert}
use Rattle.std.proofs.lemmas.Option.{slice_get-get_or}
use Rattle.std.specs.List.{All, cons_option, filter, insert}
use Rattle.std.specs.declared.cmp.Ordering.{Ordering}
use Rattle.std.specs.declared.cmp.Ordering.TheVariants.{Equal}
use Rattle.sorted_order.specs.Sought.{IsRising, IsGap, IsFound, IsMissing, is_equal}
use Rattle.sorted_order.specs.Inside.Seeking.{IsFirstFound}
use Rattle.sorted_order.specs.ArenaView.{ArenaView, picked, in_order, Arranges, compared_if, compared_at, IsNumber, FindsNumber}

-- each number is that of an item
abbrev pub AreNumbers : {T : Type 0} → List T → List ℕ → Type 0
AreNumbers items numbers = All (λ number. number < length items) numbers

-- If each number is that of an item, so is each number of the rest.
rest_of : {T : Type 0} (items : List T) (n : ℕ) (ns : List ℕ) → AreNumbers items (n ∷ ns) → AreNumbers items ns
rest_of items n ns all = λ k d h. all (suc k) d (omega arith)

-- If each number is that of an item, so is the first.
first_of : {T : Type 0} (items : List T) (n : ℕ) (ns : List ℕ) → AreNumbers items (n ∷ ns) → n < length items
first_of items n ns all = all 0 0 (omega arith)

-- A number below the count has its item.
item_of : {T : Type 0} (items : List T) (n : ℕ) → n < length items → (item : T) × (slice_get items n ≡ Some item)
item_of [] n h = absurd (omega arith)
item_of (x ∷ xs) zero h = (x, refl)
item_of (x ∷ xs) (suc n) h = item_of xs n (omega arith)

-- The items of a list of numbers begin with the item of the first.
picked_more : {T : Type 0} (items : List T) (n : ℕ) (ns : List ℕ) (item : T) → slice_get items n ≡ Some item
    → picked items (n ∷ ns) ≡ item ∷ picked items ns
picked_more items n ns item e = ap (λ found. cons_option found (picked items ns)) e

-- There is one item for each number.
pub length-picked : {T : Type 0} (items : List T) (ns : List ℕ) → AreNumbers items ns → length (picked items ns) ≡ length ns
length-picked items [] all = refl
length-picked items (n ∷ ns) all =
    let item = item_of items n (first_of items n ns all) in
    ap length (picked_more items n ns item.0 item.1) ∙ ap suc (length-picked items ns (rest_of items n ns all))

-- The items of the first k numbers are the first k items.
pub take-picked : {T : Type 0} (items : List T) (ns : List ℕ) (k : ℕ) → AreNumbers items ns → picked items (take k ns) ≡ take k (picked items ns)
take-picked items [] zero all = refl
take-picked items [] (suc k) all = refl
take-picked items (n ∷ ns) zero all = refl
take-picked items (n ∷ ns) (suc k) all =
    let item = item_of items n (first_of items n ns all) in
    picked_more items n (take k ns) item.0 item.1
    ∙ ap (λ rest. item.0 ∷ rest) (take-picked items ns k (rest_of items n ns all))
    ∙ ap (λ xs. take (suc k) xs) (sym (picked_more items n ns item.0 item.1))

-- The items of the later numbers are the later items.
pub drop-picked : {T : Type 0} (items : List T) (ns : List ℕ) (k : ℕ) → AreNumbers items ns → picked items (drop k ns) ≡ drop k (picked items ns)
drop-picked items [] zero all = refl
drop-picked items [] (suc k) all = refl
drop-picked items (n ∷ ns) zero all = refl
drop-picked items (n ∷ ns) (suc k) all =
    let item = item_of items n (first_of items n ns all) in
    drop-picked items ns k (rest_of items n ns all) ∙ ap (λ xs. drop (suc k) xs) (sym (picked_more items n ns item.0 item.1))

-- The item in the i-th place is the one with the i-th number.
pub picked-at : {T : Type 0} (items : List T) (ns : List ℕ) (i : ℕ) (d : T) → AreNumbers items ns → i < length ns
    → slice_get items (slice_index ns i) ≡ Some (slice_index_or (picked items ns) i d)
picked-at items [] i d all h = absurd (omega arith)
picked-at items (n ∷ ns) zero d all h =
    let item = item_of items n (first_of items n ns all) in
    item.1 ∙ ap (λ xs. Some (slice_index_or xs 0 d)) (sym (picked_more items n ns item.0 item.1))
picked-at items (n ∷ ns) (suc i) d all h =
    let item = item_of items n (first_of items n ns all) in
    picked-at items ns i d (rest_of items n ns all) (omega arith)
    ∙ ap (λ xs. Some (slice_index_or xs (suc i) d)) (sym (picked_more items n ns item.0 item.1))

-- ---- after one more item

-- An item that comes last changes nothing before it.
get_more : {T : Type 0} (items : List T) (n : ℕ) (item : T) → n < length items → slice_get (items ++ item ∷ []) n ≡ slice_get items n
get_more [] n item h = absurd (omega arith)
get_more (x ∷ xs) zero item h = refl
get_more (x ∷ xs) (suc n) item h = get_more xs n item (omega arith)

-- The new item is at the old length.
get_last : {T : Type 0} (items : List T) (item : T) → slice_get (items ++ item ∷ []) (length items) ≡ Some item
get_last [] item = refl
get_last (x ∷ xs) item = get_last xs item

-- The items with the old numbers are the same.
same_picked : {T : Type 0} (items : List T) (ns : List ℕ) (item : T) → AreNumbers items ns → picked (items ++ item ∷ []) ns ≡ picked items ns
same_picked items [] item all = refl
same_picked items (n ∷ ns) item all =
    let old = item_of items n (first_of items n ns all) in
    picked_more (items ++ item ∷ []) n ns old.0 (get_more items n item (first_of items n ns all) ∙ old.1)
    ∙ ap (λ rest. old.0 ∷ rest) (same_picked items ns item (rest_of items n ns all))
    ∙ sym (picked_more items n ns old.0 old.1)

-- The old numbers are still those of items.
more_numbers : {T : Type 0} (items : List T) (ns : List ℕ) (item : T) → AreNumbers items ns → AreNumbers (items ++ item ∷ []) ns
more_numbers items ns item all = λ k d h. let w = all k d h in omega (arith, w, length-append items (item ∷ []))

-- A number that is inserted at a place puts its item there.
pub picked-put : {T : Type 0} (items : List T) (ns : List ℕ) (at n : ℕ) (item : T) → AreNumbers items ns → slice_get items n ≡ Some item
    → picked items (insert ns at n) ≡ insert (picked items ns) at item
picked-put items ns at n item all e =
    filter_map-append (slice_get items) (take at ns) (n ∷ drop at ns)
    ∙ ap (λ rest. picked items (take at ns) ++ rest) (picked_more items n (drop at ns) item e)
    ∙ ap (λ rest. picked items (take at ns) ++ item ∷ rest) (drop-picked items ns at all)
    ∙ ap (λ front. front ++ item ∷ drop at (picked items ns)) (take-picked items ns at all)

-- A new item, whose number is inserted at a place, has that place in the caller's order.
pub picked-insert : {T : Type 0} (items : List T) (ns : List ℕ) (at : ℕ) (item : T) → AreNumbers items ns
    → picked (items ++ item ∷ []) (insert ns at (length items)) ≡ insert (picked items ns) at item
picked-insert items ns at item all =
    picked-put (items ++ item ∷ []) ns at (length items) item (more_numbers items ns item all) (get_last items item)
    ∙ ap (λ xs. insert xs at item) (same_picked items ns item all)

-- ---- how the numbers compare, and how their items do

-- The i-th number compares to what is sought as the i-th item does.
pub compared_is : {T : Type 0} (compared : T → Ordering) (items : List T) (ns : List ℕ) (i d : ℕ) (e : T) → AreNumbers items ns
    → i < length ns → compared_at compared items (slice_index_or ns i d) ≡ compared (slice_index_or (picked items ns) i e)
compared_is compared items ns i d e all h =
    ap (λ n. compared_at compared items n) (get_or_default ns i d 0 h) ∙ ap (λ found. compared_if compared found) (picked-at items ns i e all h)

-- If the items are sorted, their numbers are: so a search may go over the numbers.
pub rising_numbers : {T : Type 0} (compared : T → Ordering) (items : List T) (ns : List ℕ) → AreNumbers items ns
    → IsRising compared (picked items ns) → IsRising (λ n. compared_at compared items n) ns
rising_numbers compared items ns all rises = record {
  rising = λ i j d h l.
      let item = item_of items (slice_index_or ns j d) (all j d l) in
      let low = compared_is compared items ns i d item.0 all (omega arith) in
      let high = compared_is compared items ns j d item.0 all l in
      let w : j < length (picked items ns) = omega (arith, length-picked items ns all) in
      rw (low, high) (rises.rising i j item.0 h w);
}

-- A gap among the numbers is one among the items.
pub gap_of_items : {T : Type 0} (compared : T → Ordering) (items : List T) (ns : List ℕ) (place : ℕ) → AreNumbers items ns
    → IsGap (λ n. compared_at compared items n) ns place → IsGap compared (picked items ns) place
gap_of_items compared items ns place all gap = record {
  within = omega (arith, length-picked items ns all, gap.within);
  before = λ k e z h.
      let l : k < length ns = omega (arith, gap.within) in
      sym (compared_is compared items ns k 0 e all l) ∙ gap.before k 0 z h;
  after = λ k e h l less.
      let w : k < length ns = omega (arith, length-picked items ns all) in
      gap.after k 0 h w (compared_is compared items ns k 0 e all w ∙ less);
}

-- ---- those that are equal, among the numbers and among the items

-- One step of `filter-picked`, for either outcome of the test.
filter_more : {T : Type 0} (b : Bool) (n : ℕ) (ns : List ℕ) (items : List T) (item : T) → slice_get items n ≡ Some item
    → picked items (cond b (n ∷ ns) ns) ≡ cond b (item ∷ picked items ns) (picked items ns)
filter_more true n ns items item e = picked_more items n ns item e
filter_more false n ns items item e = refl

-- The items of the equal numbers are the equal items.
pub filter-picked : {T : Type 0} (compared : T → Ordering) (items : List T) (ns : List ℕ) → AreNumbers items ns
    → picked items (filter (λ n. is_equal (compared_at compared items n)) ns) ≡ filter (λ item. is_equal (compared item)) (picked items ns)
filter-picked compared items [] all = refl
filter-picked compared items (n ∷ ns) all =
    let item = item_of items n (first_of items n ns all) in
    filter_more (is_equal (compared_at compared items n)) n (filter (λ m. is_equal (compared_at compared items m)) ns) items item.0 item.1
    ∙ ap (λ found. cond (is_equal (compared_if compared found))
    (item.0 ∷ picked items (filter (λ m. is_equal (compared_at compared items m)) ns))
    (picked items (filter (λ m. is_equal (compared_at compared items m)) ns))) item.1
    ∙ ap (λ rest. cond (is_equal (compared item.0)) (item.0 ∷ rest) rest) (filter-picked compared items ns (rest_of items n ns all))
    ∙ ap (λ xs. filter (λ y. is_equal (compared y)) xs) (sym (picked_more items n ns item.0 item.1))

-- ---- what is filtered is still among them

-- A bound on all numbers of a list holds with one more number within it.
All-cons : (limit n : ℕ) (ns : List ℕ) → n < limit → All (λ m. m < limit) ns → All (λ m. m < limit) (n ∷ ns)
All-cons limit n ns h all = λ k d l. elim k as (λ j. j < length (n ∷ ns) → slice_index_or (n ∷ ns) j d < limit) [
  | zero ↦ λ w. h
  | suc j ↦ λ w. all j d (omega arith)
] l

-- The bound also holds if the number is added only when it passes a test.
All-cond : (b : Bool) (limit n : ℕ) (ns : List ℕ) → n < limit → All (λ m. m < limit) ns → All (λ m. m < limit) (cond b (n ∷ ns) ns)
All-cond true limit n ns h all = All-cons limit n ns h all
All-cond false limit n ns h all = all

-- Numbers that pass a test are within the bound of all.
pub filter_within : (test : ℕ → Bool) (limit : ℕ) (ns : List ℕ) → All (λ n. n < limit) ns → All (λ n. n < limit) (filter test ns)
filter_within test limit [] all = all
filter_within test limit (n ∷ ns) all =
    All-cond (test n) limit n (filter test ns) (all 0 0 (omega arith)) (filter_within test limit ns (λ k d h. all (suc k) d (omega arith)))

-- An order of all numbers, with the next number inserted anywhere, is one of all and the next.
pub Arranges-insert : (order : List ℕ) (count at : ℕ) → Arranges order count → at ≤ length order → Arranges (insert order at count) (count + 1)
Arranges-insert order count at h l = record {
  counted = omega (arith, length-insert order at count l, h.counted);
  within = λ k d w.
      let len = length-insert order at count l in
      elim (cases_lt k at) [
        | inl below ↦ rw (get_or-insert_below order at count d k below l) (let old = h.within k d (omega arith) in omega arith)
        | inr not_below ↦
            elim (cases_lt at k) [
              | inl above ↦
                  let before : k ≡ (k - 1) + 1 = omega arith in
                  let moved : slice_index_or (insert order at count) k d ≡ slice_index_or order (k - 1) d =
                  ap (λ n. slice_index_or (insert order at count) n d) before ∙ get_or-insert_above order at count d (k - 1) (omega arith) l in
                  rw moved (let old = h.within (k - 1) d (omega arith) in omega arith)
              | inr not_above ↦
                  let here : k ≡ at = omega arith in
                  let read : slice_index_or (insert order at count) k d ≡ count =
                  ap (λ n. slice_index_or (insert order at count) n d) here ∙ get_or-insert_at order at count d l in
                  omega (arith, read)
            ]
      ];
  each = λ number w.
      elim (cases_lt number count) [
        | inl old ↦
            let has = h.each number old in
            (in_insert order at has.0 count number l has.1 (sym has.2)).1
        | inr new ↦
            let same : number ≡ count = omega arith in
            (at, omega (arith, length-insert order at count l), rw same (get_or-insert_at order at count count l))
      ];
}

-- If the arena's items are sorted for what is sought, their numbers are: so the search may go over
-- these.
pub by_rises : {T P : Type 0} (compared : P → T → Ordering) (p q : P) (items lent : List T) (order : List ℕ) (capacity : ℕ) (stock : ArenaView T)
    → record { items = items; order = order; capacity = capacity } ≡ stock → q ≡ p → lent ≡ items → AreNumbers items order
    → IsRising (compared p) (in_order stock) → IsRising (λ n. compared_at (compared q) lent n) order
by_rises {T} {P} compared p q items lent order capacity stock view same_probe same_items all rises =
    let here : IsRising (compared p) (picked items order) = subst (λ (s : ArenaView T). IsRising (compared p) (in_order s)) (sym view) rises in
    rw (same_probe, same_items) (rising_numbers (compared p) items order all here)

-- A gap that the search finds among the numbers is one among the arena's items.
pub by_gap : {T P : Type 0} (compared : P → T → Ordering) (p q : P) (items lent : List T) (order : List ℕ) (capacity : ℕ) (stock : ArenaView T) (place : ℕ)
    → record { items = items; order = order; capacity = capacity } ≡ stock → q ≡ p → lent ≡ items → AreNumbers items order
    → IsGap (λ n. compared_at (compared q) lent n) order place → IsGap (compared p) (in_order stock) place
by_gap {T} {P} compared p q items lent order capacity stock place view same_probe same_items all gap =
    let mine : IsGap (λ n. compared_at (compared q) items n) order place =
    subst (λ (xs : List T). IsGap (λ n. compared_at (compared q) xs n) order place) same_items gap in
    let here : IsGap (λ n. compared_at (compared p) items n) order place =
    subst (λ (r : P). IsGap (λ n. compared_at (compared r) items n) order place) same_probe mine in
    subst (λ (s : ArenaView T). IsGap (compared p) (in_order s) place) view (gap_of_items (compared p) items order place all here)

-- ---- what a search among the numbers found says of the items

-- What the test of equality refuses is not equal.
pub not_equal_of : (o : Ordering) → is_eq o ≡ false → o ≢ Equal
not_equal_of o e h = let yes : is_eq o ≡ true = rw h refl in cc

-- A comparison that was kept in a variable, and that the test of equality refuses, is not equal.
pub not_equal_at : {T : Type 0} (compared : T → Ordering) (item : T) (o : Ordering) (b : Bool) → o ≡ compared item → b ≡ is_eq o → b ≡ false
    → compared item ≢ Equal
not_equal_at compared item o b e f h = λ equal. not_equal_of o (sym f ∙ h) (e ∙ equal)

-- What is found first among the numbers is found first among the items.
pub found_of_items : {T : Type 0} (compared : T → Ordering) (items : List T) (ns : List ℕ) (place : ℕ)
    → AreNumbers items ns
    → IsFound (λ n. compared_at compared items n) ns place
    → IsFound compared (picked items ns) place
found_of_items compared items ns place all found = record {
  within = omega (arith, length-picked items ns all, found.within);
  before = λ k e z h.
      let l : k < length ns = omega (arith, found.within) in
      sym (compared_is compared items ns k 0 e all l) ∙ found.before k 0 z h;
  here = λ e. sym (compared_is compared items ns place 0 e all found.within) ∙ found.here 0;
}

-- What is missing among the numbers is missing among the items.
pub missing_of_items : {T : Type 0} (compared : T
    → Ordering) (items : List T) (ns : List ℕ) (place : ℕ) → AreNumbers items ns
    → IsMissing (λ n. compared_at compared items n) ns place
    → IsMissing compared (picked items ns) place
missing_of_items compared items ns place all missing = record {
  within = omega (arith, length-picked items ns all, missing.within);
  before = λ k e z h.
      let l : k < length ns = omega (arith, missing.within) in
      sym (compared_is compared items ns k 0 e all l) ∙ missing.before k 0 z h;
  after = λ k e h l.
      let w : k < length ns = omega (arith, length-picked items ns all) in
      sym (compared_is compared items ns k 0 e all w) ∙ missing.after k 0 h w;
}

-- The first number found is that of the first item found.
number_of_item : {T : Type 0} (compared : T
    → Ordering) (items : List T) (order : List ℕ) (capacity number : ℕ) → AreNumbers items order
    → IsFirstFound (λ n. compared_at compared items n) order number
    → IsNumber compared (record { items = items; order = order; capacity = capacity }) number
number_of_item compared items order capacity number all first =
    let within : number < length items = let w = all first.place 0 first.found.within in omega (arith, w, first.numbered) in
    record {
      within = within;
      equal = λ d.
          ap (λ found. compared_if compared found) (sym (slice_get-get_or items number d within))
          ∙ ap (λ n. compared_at compared items n) (sym first.numbered) ∙ first.found.here 0;
      place = first.place;
      found = found_of_items compared items order first.place all first.found;
      numbered = first.numbered;
    }

-- What the search over numbers returns is what `find` of the arena promises.
pub by_number : {T P : Type 0} (compared : P → T
    → Ordering) (p q : P) (items lent : List T) (order : List ℕ) (capacity : ℕ) (stock : ArenaView T) (r : Result ℕ ℕ)
    → record { items = items; order = order; capacity = capacity } ≡ stock → q ≡ p → lent ≡ items
    → AreNumbers items order
    → MatchResult r (IsFirstFound (λ n. compared_at (compared q) lent n) order) (IsMissing (λ n. compared_at (compared q) lent n) order)
    → FindsNumber (compared p) stock r
by_number {T} {P} compared p q items lent order capacity stock (Ok number) view same_probe same_items all first =
    let here : IsFirstFound (λ n. compared_at (compared p) items n) order number = rw (
      same_probe,
      same_items,
    ) at first in
    subst (λ (s : ArenaView T). IsNumber (compared p) s number) view (number_of_item (compared p) items order capacity number all here)
by_number {T} {P} compared p q items lent order capacity stock (Err place) view same_probe same_items all missing =
    let here : IsMissing (λ n. compared_at (compared p) items n) order place = rw (
      same_probe,
      same_items,
    ) at missing in
    subst (λ (s : ArenaView T). IsMissing (compared p) (in_order s) place) view (missing_of_items (compared p) items order place all here)

-- ---- what is left to lend

-- After a number is lent, those left are still those of items.
pub next_within : (limit : ℕ) (old new : List ℕ) (r : Option ℕ) → MatchOption r ((old ≡ []) × (new ≡ [])) (λ n. old ≡ n ∷ new)
    → All (λ n. n < limit) old → All (λ n. n < limit) new
next_within limit old new None e all = rw e.1 (λ k d h. absurd (omega arith))
next_within limit old new (Some n) e all =
    let here : All (λ m. m < limit) (n ∷ new) = subst (λ (xs : List ℕ). All (λ m. m < limit) xs) e all in
    λ k d h. here (suc k) d (omega arith)

-- To lend the next number's item is to lend the next of the items left.
pub lend_next : {T : Type 0} (items : List T) (old new : List ℕ) (n : ℕ) (x : T) (left : List T) → picked items old ≡ left → old ≡ n ∷ new
    → All (λ m. m < length items) old → left ≡ slice_index_or items n x ∷ picked items new
lend_next {T} items old new n x left view e all =
    let here : AreNumbers items (n ∷ new) = subst (λ (ns : List ℕ). AreNumbers items ns) e all in
    sym view ∙ ap (λ (ns : List ℕ). picked items ns) e
    ∙ picked_more items n new (slice_index_or items n x) (slice_get-get_or items n x (first_of items n new here))

-- The items of the equal numbers are the equal items of the arena, as `matching` promises.
pub by_filter : {T P : Type 0} (compared : P → T → Ordering) (p q : P) (items lent : List T) (order : List ℕ) (capacity : ℕ) (stock : ArenaView T)
    → record { items = items; order = order; capacity = capacity } ≡ stock → q ≡ p → lent ≡ items → AreNumbers items order
    → picked items (filter (λ n. is_equal (compared_at (compared q) lent n)) order) ≡ filter (λ item. is_equal (compared p item)) (in_order stock)
by_filter {T} {P} compared p q items lent order capacity stock view same_probe same_items all =
    rw (same_probe, same_items) (filter-picked (compared p) items order all
    ∙ ap (λ (s : ArenaView T). filter (λ item. is_equal (compared p item)) (in_order s)) view)

-- The number of items in the caller's order is the number of all items.
pub length-in_order : {T : Type 0} (stock : ArenaView T) → Arranges stock.order (length stock.items) → length (in_order stock) ≡ length stock.items
length-in_order stock h = length-picked stock.items stock.order h.within ∙ h.counted

-- Arenas with the same items and order have the same items in order, whatever their capacity.
pub same_in_order : {T : Type 0} (s t : ArenaView T) → s.items ≡ t.items → s.order ≡ t.order → in_order s ≡ in_order t
same_in_order s t items order = ap (λ xs. picked xs s.order) items ∙ ap (λ ns. picked t.items ns) order
