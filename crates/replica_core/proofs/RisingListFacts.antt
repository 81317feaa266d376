-- Lists that rise: their parts, and an item above all others.
use Rattle.std.proofs.Common.{ℕ, zero, suc, take, ◌++◌, List, [], ap, refl, ◌∙◌, ◌∷◌, ◌≡◌}
use Rattle.std.specs.List.{AllByRecursion}
use Rattle.std.specs.declared.cmp.Ordering.TheVariants.{Greater, Less}
use Rattle.std.specs.List.Sorted.{IsStrictlySortedBy}
use Rattle.std.specs.declared.cmp.Ordering.{Ordering}
use Rattle.receipt_core.specs.Rising.{placed, with_item}
use Rattle.replica_core.proofs.ContainsFacts.{take-each}

-- The empty list rises.
pub rising_nil : {A : Type 0} (cmp : A → A → Ordering) → IsStrictlySortedBy cmp []
unfolding IsStrictlySortedBy
rising_nil cmp = tt

-- An item below all others, before a sorted list, makes a sorted list.
pub rising_cons : {A : Type 0} (cmp : A → A → Ordering) (x : A) (xs : List A) → AllByRecursion (λ y. cmp x y ≡ Less) xs
    → IsStrictlySortedBy cmp xs → IsStrictlySortedBy cmp (x ∷ xs)
unfolding IsStrictlySortedBy
rising_cons cmp x xs above rising = (above, rising)

-- The first item of a sorted list is below all others.
pub rising_head : {A : Type 0} (cmp : A → A → Ordering) (x : A) (xs : List A) → IsStrictlySortedBy cmp (x ∷ xs) → AllByRecursion (λ y. cmp x y ≡ Less) xs
unfolding IsStrictlySortedBy
rising_head cmp x xs rising = rising.0

-- The rest of a sorted list rises.
pub rising_tail : {A : Type 0} (cmp : A → A → Ordering) (x : A) (xs : List A) → IsStrictlySortedBy cmp (x ∷ xs) → IsStrictlySortedBy cmp xs
unfolding IsStrictlySortedBy
rising_tail cmp x xs rising = rising.1

-- The first items of a sorted list rise.
pub rising_take : {A : Type 0} (cmp : A → A → Ordering) (n : ℕ) (xs : List A) → IsStrictlySortedBy cmp xs → IsStrictlySortedBy cmp (take n xs)
rising_take cmp zero xs up = rising_nil cmp
rising_take cmp (suc n) [] up = rising_nil cmp
rising_take cmp (suc n) (x ∷ xs) up =
    rising_cons cmp x (take n xs) (take-each (λ y. cmp x y ≡ Less) n xs (rising_head cmp x xs up))
    (rising_take cmp n xs (rising_tail cmp x xs up))

-- What holds of all items of two lists holds of both together.
pub all_append : {A : Type 0} (P : A → Type 0) (xs ys : List A) → AllByRecursion P xs → AllByRecursion P ys → AllByRecursion P (xs ++ ys)
all_append P [] ys h k = k
all_append P (x ∷ xs) ys h k = (h.0, all_append P xs ys h.1 k)

-- What holds of all items of both holds of the first list.
pub all_front : {A : Type 0} (P : A → Type 0) (xs ys : List A) → AllByRecursion P (xs ++ ys) → AllByRecursion P xs
all_front P [] ys h = tt
all_front P (x ∷ xs) ys h = (h.0, all_front P xs ys h.1)

-- What holds of all items of both holds of the second list.
pub all_back : {A : Type 0} (P : A → Type 0) (xs ys : List A) → AllByRecursion P (xs ++ ys) → AllByRecursion P ys
all_back P [] ys h = h
all_back P (x ∷ xs) ys h = all_back P xs ys h.1

-- Two sorted lists, the first below the second, rise together.
pub rising_append : {A : Type 0} (cmp : A → A → Ordering) (xs ys : List A) → IsStrictlySortedBy cmp xs
    → IsStrictlySortedBy cmp ys → AllByRecursion (λ x. AllByRecursion (λ y. cmp x y ≡ Less) ys) xs
    → IsStrictlySortedBy cmp (xs ++ ys)
rising_append cmp [] ys p q between = q
rising_append cmp (x ∷ xs) ys p q between =
    rising_cons cmp x (xs ++ ys) (all_append (λ y. cmp x y ≡ Less) xs ys (rising_head cmp x xs p) between.0)
    (rising_append cmp xs ys (rising_tail cmp x xs p) q between.1)

-- ---- an item above all others

-- An item above all others of a set is added at its end.
pub at_end : {A : Type 0} (cmp : A → A → Ordering) (item : A) (set : List A)
    → AllByRecursion (λ y. cmp item y ≡ Greater) set → with_item cmp item set ≡ set ++ item ∷ []
at_end cmp item [] h = refl
at_end cmp item (head ∷ rest) h = ap (λ o. placed o item head rest (with_item cmp item rest)) h.0 ∙ ap (λ longer. head ∷ longer) (at_end cmp item rest h.1)
