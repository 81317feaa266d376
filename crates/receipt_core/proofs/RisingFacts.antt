-- Strictly sorted lists as sets: membership, insertion, and that equal sets are equal lists.
use Rattle.std.proofs.Common.{◌≡◌, ℕ, zero, suc, ◌+◌, ◌<◌, List, [], ◌∷◌, length, ◌⊎◌, inl, inr, refl, sym, ap, ◌∙◌, subst, arith, get_or}
use Rattle.std.specs.Prelude.{Contains}
use Rattle.std.specs.declared.cmp.Ordering.{Ordering}
use Rattle.std.specs.declared.cmp.Ordering.TheVariants.{Less, Equal, Greater}
use Rattle.std.specs.Ordering.{ordering_reverse}
use Rattle.std.specs.Cmp.{IsTotalOrder, tied_itself}
use Rattle.std.specs.List.{AllByRecursion}
use Rattle.std.specs.List.Sorted.{IsStrictlySortedBy}
use Rattle.std.proofs.lemmas.Map.Keys.{sorted_head, sorted_tail}
use Rattle.receipt_core.specs.Rising.{with_item, with_items, placed}
use Rattle.receipt_core.specs.Sets.{AreSets}

-- ---- membership, by recursion

-- the item is a member, by recursion
abbrev pub Has : {A : Type 0} → List A → A → Type 0
Has [] a = ⊥
Has (b ∷ others) a = (b ≡ a) ⊎ Has others a

-- a member by recursion is at some index
pub Contains-from_has : {A : Type 0} (xs : List A) (a : A) → Has xs a → Contains xs a
Contains-from_has [] a h = absurd h
Contains-from_has (x ∷ xs) a h = elim h [ inl e ↦ (0, omega arith, e) | inr k ↦ let rest = Contains-from_has xs a k in (suc rest.0, omega arith, rest.2) ]

-- the item at an index is a member by recursion
has_at : {A : Type 0} (xs : List A) (a : A) (k : ℕ) → k < length xs → get_or xs k a ≡ a → Has xs a
has_at [] a k lt e = absurd (omega arith)
has_at (x ∷ xs) a zero lt e = inl e
has_at (x ∷ xs) a (suc k) lt e = inr (has_at xs a k (omega arith) e)

-- a member is one by recursion
pub Has-from_contains : {A : Type 0} (xs : List A) (a : A) → Contains xs a → Has xs a
Has-from_contains xs a h = has_at xs a h.0 h.1 h.2

-- what holds of each item holds of a member
pub each_has : {A : Type 0} (P : A → Type 0) (xs : List A) (a : A) → AllByRecursion P xs → Has xs a → P a
each_has P [] a h k = absurd k
each_has P (x ∷ xs) a h k = elim k [ inl e ↦ subst P e h.0 | inr later ↦ each_has P xs a h.1 later ]

-- what holds of all members holds of each item
pub all_from_has : {A : Type 0} (P : A → Type 0) (xs : List A) → ((a : A) → Has xs a → P a) → AllByRecursion P xs
all_from_has P [] h = tt
all_from_has P (x ∷ xs) h = (h x (inl refl), all_from_has P xs (λ a k. h a (inr k)))

-- ---- orders

-- what is below an item has it above
pub turned : {A : Type 0} {cmp : A → A → Ordering} → IsTotalOrder cmp → (a b : A) → cmp a b ≡ Less → cmp b a ≡ Greater
turned {A} {cmp} o a b h = o.antisymm b a ∙ ap ordering_reverse h

-- what is above an item has it below
unturned : {A : Type 0} {cmp : A → A → Ordering} → IsTotalOrder cmp → (a b : A) → cmp a b ≡ Greater → cmp b a ≡ Less
unturned {A} {cmp} o a b h = o.antisymm b a ∙ ap ordering_reverse h

-- no item is below itself
no_less_itself : {A : Type 0} {cmp : A → A → Ordering} → IsTotalOrder cmp → (a : A) → cmp a a ≡ Less → ⊥
no_less_itself {A} {cmp} o a h = let tied : cmp a a ≡ Equal = tied_itself o a in cc

-- below the head of a strictly sorted list, so below all of it
below_all : {A : Type 0} (cmp : A → A → Ordering) → IsTotalOrder cmp → (a head : A) (rest : List A) → cmp a head ≡ Less
    → AllByRecursion (λ y. cmp head y ≡ Less) rest → AllByRecursion (λ y. cmp a y ≡ Less) rest
below_all cmp o a head [] h all = tt
below_all cmp o a head (x ∷ rest) h all = (o.trans a head x h all.0, below_all cmp o a head rest h all.1)

-- a strictly sorted list is so with an item in front that is below all of it
rises : {A : Type 0} (cmp : A → A → Ordering) (head : A) (rest : List A) → AllByRecursion (λ y. cmp head y ≡ Less) rest
    → IsStrictlySortedBy cmp rest → IsStrictlySortedBy cmp (head ∷ rest)
unfolding IsStrictlySortedBy
rises cmp head rest all rising = (all, rising)

-- the empty list is strictly sorted
rises_empty : {A : Type 0} (cmp : A → A → Ordering) → IsStrictlySortedBy cmp []
unfolding IsStrictlySortedBy
rises_empty cmp = tt

-- ---- one item more

-- what holds of the item and of all others holds wherever the item goes; for `with_item-all`
placed_all : {A : Type 0} (Q : A → Type 0) (o : Ordering) (item head : A) (rest longer : List A) → Q item → Q head
    → AllByRecursion Q rest → AllByRecursion Q longer → AllByRecursion Q (placed o item head rest longer)
placed_all Q Less item head rest longer p q r l = (p, (q, r))
placed_all Q Equal item head rest longer p q r l = (q, r)
placed_all Q Greater item head rest longer p q r l = (q, l)

-- what holds of the item and of all others holds of all
pub with_item-all : {A : Type 0} (Q : A → Type 0) (cmp : A → A → Ordering) (item : A) (set : List A) → Q item
    → AllByRecursion Q set → AllByRecursion Q (with_item cmp item set)
with_item-all Q cmp item [] p h = (p, tt)
with_item-all Q cmp item (head ∷ rest) p h =
    placed_all Q (cmp item head) item head rest (with_item cmp item rest) p h.0 h.1
    (with_item-all Q cmp item rest p h.1)

-- the list is strictly sorted wherever the item goes; for `with_item-rising`
placed_rises : {A : Type 0} (cmp : A → A → Ordering) → IsTotalOrder cmp → (o : Ordering) (item head : A) (rest longer : List A) → o ≡ cmp item head
    → AllByRecursion (λ y. cmp head y ≡ Less) rest → IsStrictlySortedBy cmp rest
    → (cmp head item ≡ Less → AllByRecursion (λ y. cmp head y ≡ Less) longer) → IsStrictlySortedBy cmp longer
    → IsStrictlySortedBy cmp (placed o item head rest longer)
placed_rises cmp t Less item head rest longer e above rising above_longer longer_rises =
    rises cmp item (head ∷ rest) (sym e, below_all cmp t item head rest (sym e) above) (rises cmp head rest above rising)
placed_rises cmp t Equal item head rest longer e above rising above_longer longer_rises = rises cmp head rest above rising
placed_rises cmp t Greater item head rest longer e above rising above_longer longer_rises =
    rises cmp head longer (above_longer (unturned t item head (sym e))) longer_rises

-- a strictly sorted list is still so with the item
pub with_item-rising : {A : Type 0} (cmp : A → A → Ordering) → IsTotalOrder cmp → (item : A) (set : List A)
    → IsStrictlySortedBy cmp set → IsStrictlySortedBy cmp (with_item cmp item set)
with_item-rising cmp t item [] h = rises cmp item [] tt (rises_empty cmp)
with_item-rising cmp t item (head ∷ rest) h =
    let above = sorted_head cmp head rest h in
    let rising = sorted_tail cmp head rest h in
    placed_rises cmp t (cmp item head) item head rest (with_item cmp item rest) refl above rising
    (λ less. with_item-all (λ y. cmp head y ≡ Less) cmp item rest less above) (with_item-rising cmp t item rest rising)

-- a member is the item or was one, wherever the item goes; for `with_item-has`
placed_has : {A : Type 0} (o : Ordering) (item head a : A) (rest longer : List A)
    → (Has longer a → (item ≡ a) ⊎ Has rest a) → Has (placed o item head rest longer) a
    → (item ≡ a) ⊎ Has (head ∷ rest) a
placed_has Less item head a rest longer k h = h
placed_has Equal item head a rest longer k h = inr h
placed_has Greater item head a rest longer k h = elim h [ inl e ↦ inr (inl e) | inr later ↦ elim (k later) [ inl e ↦ inl e | inr old ↦ inr (inr old) ] ]

-- a member is the item or was one
pub with_item-has : {A : Type 0} (cmp : A → A → Ordering) (item : A) (set : List A) (a : A) → Has (with_item cmp item set) a → (item ≡ a) ⊎ Has set a
with_item-has cmp item [] a h = h
with_item-has cmp item (head ∷ rest) a h = placed_has (cmp item head) item head a rest (with_item cmp item rest) (with_item-has cmp item rest a) h

-- what was a member is one, wherever the item goes; for `with_item-keeps`
placed_keeps : {A : Type 0} (o : Ordering) (item head a : A) (rest longer : List A) → (Has rest a → Has longer a)
    → Has (head ∷ rest) a → Has (placed o item head rest longer) a
placed_keeps Less item head a rest longer k h = inr h
placed_keeps Equal item head a rest longer k h = h
placed_keeps Greater item head a rest longer k h = elim h [ inl e ↦ inl e | inr later ↦ inr (k later) ]

-- what was a member is one
pub with_item-keeps : {A : Type 0} (cmp : A → A → Ordering) (item : A) (set : List A) (a : A) → Has set a → Has (with_item cmp item set) a
with_item-keeps cmp item [] a h = absurd h
with_item-keeps cmp item (head ∷ rest) a h = placed_keeps (cmp item head) item head a rest (with_item cmp item rest) (with_item-keeps cmp item rest a) h

-- the item is a member, wherever it goes; for `with_item-new`
placed_new : {A : Type 0} (o : Ordering) (item head : A) (rest longer : List A) → (o ≡ Equal → head ≡ item)
    → Has longer item → Has (placed o item head rest longer) item
placed_new Less item head rest longer same k = inl refl
placed_new Equal item head rest longer same k = inl (same refl)
placed_new Greater item head rest longer same k = inr k

-- the order distinguishes what differs
abbrev pub IsExactOn : {A : Type 0} → (A → Type 0) → (A → A → Ordering) → Type 0
IsExactOn {A} P cmp = (a b : A) → P a → P b → cmp a b ≡ Equal → a ≡ b

-- the item is a member
pub with_item-new : {A : Type 0} (P : A → Type 0) (cmp : A → A → Ordering) → IsExactOn P cmp → (item : A) (set : List A)
    → P item → AllByRecursion P set → Has (with_item cmp item set) item
with_item-new P cmp exact item [] p h = inl refl
with_item-new P cmp exact item (head ∷ rest) p h =
    placed_new (cmp item head) item head rest (with_item cmp item rest) (λ e. sym (exact item head p h.0 e)) (with_item-new P cmp exact item rest p h.1)

-- a member that is put in again changes nothing; for `with_item-present`
placed_present : {A : Type 0} (cmp : A → A → Ordering) → IsTotalOrder cmp → (o : Ordering) (item head : A) (rest longer : List A) → o ≡ cmp item head
    → AllByRecursion (λ y. cmp head y ≡ Less) rest → Has (head ∷ rest) item → (Has rest item → longer ≡ rest) → placed o item head rest longer ≡ head ∷ rest
placed_present {A} cmp t Less item head rest longer e above h k =
    absurd (elim h [
      | inl same ↦ no_less_itself t item (subst (λ (x : A). cmp item x ≡ Less) same (sym e))
      | inr later ↦ no_less_itself t item (t.trans item head item (sym e) (each_has (λ y. cmp head y ≡ Less) rest item above later))
    ])
placed_present cmp t Equal item head rest longer e above h k = refl
placed_present {A} cmp t Greater item head rest longer e above h k =
    elim h [
      | inl same ↦ let tied : cmp item head ≡ Equal = subst (λ (x : A). cmp item x ≡ Equal) (sym same) (tied_itself t item) in absurd (cc)
      | inr later ↦ ap (λ xs. head ∷ xs) (k later)
    ]

-- a member put in again changes nothing
pub with_item-present : {A : Type 0} (cmp : A → A → Ordering) → IsTotalOrder cmp → (item : A) (set : List A)
    → IsStrictlySortedBy cmp set → Has set item → with_item cmp item set ≡ set
with_item-present cmp t item [] h k = absurd k
with_item-present cmp t item (head ∷ rest) h k =
    placed_present cmp t (cmp item head) item head rest (with_item cmp item rest) refl (sorted_head cmp head rest h) k
    (with_item-present cmp t item rest (sorted_tail cmp head rest h))

-- a new item makes the list one longer, wherever it goes; for `with_item-length`
placed_length : {A : Type 0} (o : Ordering) (item head : A) (rest longer : List A) → (o ≡ Equal → ⊥)
    → length longer ≡ length rest + 1 → length (placed o item head rest longer) ≡ length (head ∷ rest) + 1
placed_length Less item head rest longer absent e = omega arith
placed_length Equal item head rest longer absent e = absurd (absent refl)
placed_length Greater item head rest longer absent e = omega arith

-- a new one makes the set one longer
pub with_item-length : {A : Type 0} (P : A → Type 0) (cmp : A → A → Ordering) → IsExactOn P cmp
    → (item : A) (set : List A) → P item → AllByRecursion P set → (Has set item → ⊥)
    → length (with_item cmp item set) ≡ length set + 1
with_item-length P cmp exact item [] p h absent = refl
with_item-length P cmp exact item (head ∷ rest) p h absent =
    placed_length (cmp item head) item head rest (with_item cmp item rest) (λ e. absent (inl (sym (exact item head p h.0 e))))
    (with_item-length P cmp exact item rest p h.1 (λ k. absent (inr k)))

-- ---- equal sets

-- the heads of two strictly sorted lists with the same members are equal
same_heads : {A : Type 0} (cmp : A → A → Ordering) → IsTotalOrder cmp → (x y : A) (xs ys : List A)
    → AllByRecursion (λ z. cmp x z ≡ Less) xs → AllByRecursion (λ z. cmp y z ≡ Less) ys
    → Has (y ∷ ys) x → Has (x ∷ xs) y → x ≡ y
same_heads cmp t x y xs ys above_x above_y in_ys in_xs =
    elim in_ys [
      | inl e ↦ sym e
      | inr later ↦ elim in_xs [
        | inl e ↦ e
        | inr last ↦ absurd
            (no_less_itself t x (t.trans x y x (each_has (λ z. cmp x z ≡ Less) xs y above_x last)
            (each_has (λ z. cmp y z ≡ Less) ys x above_y later)))
      ]
    ]

-- what is above the head of a list and is a member of it is a member of the rest
rest_has : {A : Type 0} (cmp : A → A → Ordering) → IsTotalOrder cmp → (x y a : A) (ys : List A) → x ≡ y → cmp x a ≡ Less → Has (y ∷ ys) a → Has ys a
rest_has {A} cmp t x y a ys same less h =
    elim h [ inl e ↦ absurd (no_less_itself t a (subst (λ (z : A). cmp z a ≡ Less) (same ∙ e) less)) | inr later ↦ later ]

-- strictly sorted lists with the same members are equal
pub same_members : {A : Type 0} (cmp : A → A → Ordering) → IsTotalOrder cmp → (xs ys : List A) → IsStrictlySortedBy cmp xs → IsStrictlySortedBy cmp ys
    → ((a : A) → Has xs a → Has ys a) → ((a : A) → Has ys a → Has xs a) → xs ≡ ys
same_members cmp t [] [] p q there back = refl
same_members cmp t [] (y ∷ ys) p q there back = absurd (back y (inl refl))
same_members cmp t (x ∷ xs) [] p q there back = absurd (there x (inl refl))
same_members {A} cmp t (x ∷ xs) (y ∷ ys) p q there back =
    let above_x = sorted_head cmp x xs p in
    let above_y = sorted_head cmp y ys q in
    let heads : x ≡ y = same_heads cmp t x y xs ys above_x above_y (there x (inl refl)) (back y (inl refl)) in
    let tails : xs ≡ ys = same_members cmp t xs ys (sorted_tail cmp x xs p) (sorted_tail cmp y ys q)
    (λ a h. rest_has cmp t x y a ys heads (each_has (λ z. cmp x z ≡ Less) xs a above_x h) (there a (inr h)))
    (λ a h. rest_has cmp t y x a xs (sym heads) (each_has (λ z. cmp y z ≡ Less) ys a above_y h) (back a (inr h))) in
    λ i. heads i ∷ tails i

-- the order of two insertions makes no difference
pub with_item-swap : {A : Type 0} (P : A → Type 0) (cmp : A → A → Ordering) → IsTotalOrder cmp → IsExactOn P cmp
    → (a b : A) (set : List A) → P a → P b → AllByRecursion P set → IsStrictlySortedBy cmp set
    → with_item cmp a (with_item cmp b set) ≡ with_item cmp b (with_item cmp a set)
with_item-swap P cmp t exact a b set p q all h =
    same_members cmp t _ _
    (with_item-rising cmp t a (with_item cmp b set) (with_item-rising cmp t b set h))
    (with_item-rising cmp t b (with_item cmp a set) (with_item-rising cmp t a set h))
    (one_way P cmp exact a b set p q all) (one_way P cmp exact b a set q p all)
  where
    one_way : {A : Type 0} (P : A → Type 0) (cmp : A → A → Ordering) → IsExactOn P cmp → (a b : A) (set : List A) → P a
        → P b → AllByRecursion P set → (x : A) → Has (with_item cmp a (with_item cmp b set)) x
        → Has (with_item cmp b (with_item cmp a set)) x
    one_way {A} P cmp exact a b set p q all x h =
        elim (with_item-has cmp a (with_item cmp b set) x h) [
          | inl e ↦ with_item-keeps cmp b (with_item cmp a set) x (subst (Has (with_item cmp a set)) e (with_item-new P cmp exact a set p all))
          | inr later ↦ elim (with_item-has cmp b set x later) [
            | inl e ↦ subst (Has (with_item cmp b (with_item cmp a set))) e
                (with_item-new P cmp exact b (with_item cmp a set) q (with_item-all P cmp a set p all))
            | inr old ↦ with_item-keeps cmp b (with_item cmp a set) x (with_item-keeps cmp a set x old)
          ]
        ]

-- ---- many items more

-- what holds of all items and of the set holds of both together
pub with_items-all : {A : Type 0} (Q : A → Type 0) (cmp : A → A → Ordering) (items set : List A)
    → AllByRecursion Q items → AllByRecursion Q set → AllByRecursion Q (with_items cmp items set)
with_items-all Q cmp [] set p h = h
with_items-all Q cmp (x ∷ items) set p h = with_items-all Q cmp items (with_item cmp x set) p.1 (with_item-all Q cmp x set p.0 h)

-- the set with all items rises
pub with_items-rising : {A : Type 0} (cmp : A → A → Ordering) → IsTotalOrder cmp → (items set : List A)
    → IsStrictlySortedBy cmp set → IsStrictlySortedBy cmp (with_items cmp items set)
with_items-rising cmp t [] set h = h
with_items-rising cmp t (x ∷ items) set h = with_items-rising cmp t items (with_item cmp x set) (with_item-rising cmp t x set h)

-- a member of both together is one of the items or was a member
pub with_items-has : {A : Type 0} (cmp : A → A → Ordering) (items set : List A) (a : A) → Has (with_items cmp items set) a → Has items a ⊎ Has set a
with_items-has cmp [] set a h = inr h
with_items-has cmp (x ∷ items) set a h =
    elim (with_items-has cmp items (with_item cmp x set) a h) [
      | inl k ↦ inl (inr k)
      | inr k ↦ elim (with_item-has cmp x set a k) [ inl e ↦ inl (inl e) | inr old ↦ inr old ]
    ]

-- what was a member is one
pub with_items-keeps : {A : Type 0} (cmp : A → A → Ordering) (items set : List A) (a : A) → Has set a → Has (with_items cmp items set) a
with_items-keeps cmp [] set a h = h
with_items-keeps cmp (x ∷ items) set a h = with_items-keeps cmp items (with_item cmp x set) a (with_item-keeps cmp x set a h)

-- each of the items is a member
pub with_items-new : {A : Type 0} (P : A → Type 0) (cmp : A → A → Ordering) → IsExactOn P cmp → (items set : List A)
    → AllByRecursion P items → AllByRecursion P set → (a : A) → Has items a → Has (with_items cmp items set) a
with_items-new P cmp exact [] set p h a k = absurd k
with_items-new {A} P cmp exact (x ∷ items) set p h a k =
    elim k [
      | inl e ↦ with_items-keeps cmp items (with_item cmp x set) a (subst (Has (with_item cmp x set)) e (with_item-new P cmp exact x set p.0 h))
      | inr later ↦ with_items-new P cmp exact items (with_item cmp x set) p.1 (with_item-all P cmp x set p.0 h) a later
    ]

-- ---- together

-- strictly sorted lists are sets under a total order that distinguishes what differs, as
-- `laws::sets` says
pub AreSets-from_total : {A : Type 0} (P : A → Type 0) (cmp : A → A → Ordering) → IsTotalOrder cmp → IsExactOn P cmp → AreSets P cmp
AreSets-from_total P cmp t exact = record {
  total = t;
  exact = exact;
  keeps = λ item set p all. with_item-all P cmp item set p all;
  rises = λ item set h. with_item-rising cmp t item set h;
  members = λ item a set p all. (
    λ h. elim (with_item-has cmp item set a (Has-from_contains _ a h)) [ inl e ↦ inl e | inr k ↦ inr (Contains-from_has set a k) ],
    λ h. Contains-from_has _ a (elim h [
      | inl e ↦ subst (Has (with_item cmp item set)) e (with_item-new P cmp exact item set p all)
      | inr k ↦ with_item-keeps cmp item set a (Has-from_contains set a k)
    ]),
  );
  present = λ item set h k. with_item-present cmp t item set h (Has-from_contains set item k);
  longer = λ item set p all absent. with_item-length P cmp exact item set p all (λ k. absent (Contains-from_has set item k));
  swap = λ a b set p q all h. with_item-swap P cmp t exact a b set p q all h;
  equal = λ xs ys p q same. same_members cmp t xs ys p q
      (λ a h. Has-from_contains ys a ((same a).0 (Contains-from_has xs a h)))
      (λ a h. Has-from_contains xs a ((same a).1 (Contains-from_has ys a h)));
  all_keep = λ items set p all. with_items-all P cmp items set p all;
  all_rise = λ items set h. with_items-rising cmp t items set h;
  all_members = λ items set a p all. (
    λ h. elim (with_items-has cmp items set a (Has-from_contains _ a h))
        [ inl k ↦ inl (Contains-from_has items a k) | inr k ↦ inr (Contains-from_has set a k) ],
    λ h. Contains-from_has _ a (elim h [
      | inl k ↦ with_items-new P cmp exact items set p all a (Has-from_contains items a k)
      | inr k ↦ with_items-keeps cmp items set a (Has-from_contains set a k)
    ]),
  );
}
