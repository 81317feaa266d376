-- What a list contains.
use Rattle.std.proofs.Common.{◌≡◌, ℕ, zero, suc, ◌-◌, ◌⊎◌, inl, inr, Bool, true, false, cond, ◌||◌, List, [], ◌∷◌, ◌++◌}
use Rattle.std.proofs.Common.{length, get_or, map, take, arith, refl, sym, ap, ◌∙◌, subst}
use Rattle.std.specs.Prelude.{Contains, filter, slice_get, Some, None}
use Rattle.std.specs.List.{AllByRecursion, list_any}
use Rattle.std.proofs.lemmas.Bool.{cases_Bool, cases_eq}

-- A list contains its first item.
pub contains-here : {X : Type 0} (y : X) (ys : List X) → Contains (y ∷ ys) y
contains-here y ys = (0, omega arith, refl)

-- What the rest of a list contains, the list contains.
pub contains-later : {X : Type 0} (y : X) (ys : List X) (x : X) → Contains ys x → Contains (y ∷ ys) x
contains-later y ys x c = (suc c.0, omega (arith, c.1), c.2)

-- What a list contains is its first item or is in the rest.
pub contains-cases : {X : Type 0} (y : X) (ys : List X) (x : X) → Contains (y ∷ ys) x → (x ≡ y) ⊎ Contains ys x
contains-cases y ys x c =
    elim (cases_eq c.0 0) [
      | inl z ↦ inl (sym c.2 ∙ ap (λ i. get_or (y ∷ ys) i x) z)
      | inr z ↦
          let at : c.0 ≡ suc (c.0 - 1) = omega (arith, z) in
          inr (c.0 - 1, omega (arith, c.1, z), sym (ap (λ i. get_or (y ∷ ys) i x) at) ∙ c.2)
    ]

-- The empty list contains nothing.
pub contains-none : {X : Type 0} (x : X) → Contains [] x → ⊥
contains-none x c = omega (arith, c.1)

-- What holds of all items holds of one that the list contains.
pub each-from : {X : Type 0} (P : X → Type 0) (xs : List X) → AllByRecursion P xs → (x : X) → Contains xs x → P x
each-from P [] h x c = absurd (contains-none x c)
each-from P (y ∷ ys) h x c =
    elim (contains-cases y ys x c) [ inl e ↦ subst P (sym e) h.0 | inr d ↦ each-from P ys h.1 x d ]

-- What holds of each item that the list contains holds of all, step by step.
pub each-to : {X : Type 0} (P : X → Type 0) (xs : List X) → ((x : X) → Contains xs x → P x) → AllByRecursion P xs
each-to P [] h = tt
each-to P (y ∷ ys) h = (h y (contains-here y ys), each-to P ys (λ x c. h x (contains-later y ys x c)))

-- ---- what a filter keeps

-- One step of `filter-from`, for either outcome of the test.
kept-from : {X : Type 0} (b : Bool) (y : X) (ys : List X) (x : X) → Contains (cond b (y ∷ ys) ys) x → ((b ≡ true) × (x ≡ y)) ⊎ Contains ys x
kept-from true y ys x c = elim (contains-cases y ys x c) [ inl e ↦ inl (refl, e) | inr d ↦ inr d ]
kept-from false y ys x c = inr c

-- What was kept of the rest is still kept, whether the first item is kept or not.
kept-later : {X : Type 0} (b : Bool) (y : X) (ys : List X) (x : X) → Contains ys x → Contains (cond b (y ∷ ys) ys) x
kept-later true y ys x c = contains-later y ys x c
kept-later false y ys x c = c

-- An item that passes is kept.
kept-here : {X : Type 0} (b : Bool) (y : X) (ys : List X) → b ≡ true → Contains (cond b (y ∷ ys) ys) y
kept-here true y ys e = contains-here y ys
kept-here false y ys e = absurd (let f : false ≡ true = e in cc)

-- What a filter keeps was there and passes.
pub filter-from : {X : Type 0} (p : X → Bool) (xs : List X) (x : X) → Contains (filter p xs) x → Contains xs x × (p x ≡ true)
filter-from p [] x c = absurd (contains-none x c)
filter-from p (y ∷ ys) x c =
    elim (kept-from (p y) y (filter p ys) x c) [
      | inl e ↦ (subst (Contains (y ∷ ys)) (sym e.1) (contains-here y ys), ap p e.1 ∙ e.0)
      | inr d ↦ let rest = filter-from p ys x d in (contains-later y ys x rest.0, rest.1)
    ]

-- What was there and passes is kept.
pub filter-to : {X : Type 0} (p : X → Bool) (xs : List X) (x : X) → Contains xs x → p x ≡ true → Contains (filter p xs) x
filter-to p [] x c e = absurd (contains-none x c)
filter-to p (y ∷ ys) x c e =
    elim (contains-cases y ys x c) [
      | inl s ↦ subst (Contains (filter p (y ∷ ys))) (sym s) (kept-here (p y) y (filter p ys) (sym (ap p s) ∙ e))
      | inr d ↦ kept-later (p y) y (filter p ys) x (filter-to p ys x d e)
    ]

-- ---- fronts, images, tests

-- What the front of a list contains, the list contains.
pub take-from : {X : Type 0} (n : ℕ) (xs : List X) (x : X) → Contains (take n xs) x → Contains xs x
take-from zero xs x c = absurd (contains-none x c)
take-from (suc n) [] x c = absurd (contains-none x c)
take-from (suc n) (y ∷ ys) x c =
    elim (contains-cases y (take n ys) x c) [
      | inl e ↦ subst (Contains (y ∷ ys)) (sym e) (contains-here y ys)
      | inr d ↦ contains-later y ys x (take-from n ys x d)
    ]

-- What holds of all items holds of the first ones.
pub take-each : {X : Type 0} (P : X → Type 0) (n : ℕ) (xs : List X) → AllByRecursion P xs → AllByRecursion P (take n xs)
take-each P zero xs all = tt
take-each P (suc n) [] all = tt
take-each P (suc n) (x ∷ xs) all = (all.0, take-each P n xs all.1)

-- Each item of a mapped list is the image of an item of the list.
pub map-from : {X Y : Type 0} (f : X → Y) (xs : List X) (y : Y) → Contains (map f xs) y → (x : X) × Contains xs x × (f x ≡ y)
map-from f [] y c = absurd (contains-none y c)
map-from f (z ∷ zs) y c =
    elim (contains-cases (f z) (map f zs) y c) [
      | inl e ↦ (z, contains-here z zs, sym e)
      | inr d ↦ let rest = map-from f zs y d in (rest.0, contains-later z zs rest.0 rest.1, rest.2)
    ]

-- The image of an item is among the images of all items.
pub map-to : {X Y : Type 0} (f : X → Y) (xs : List X) (x : X) → Contains xs x → Contains (map f xs) (f x)
map-to f [] x c = absurd (contains-none x c)
map-to f (z ∷ zs) x c =
    elim (contains-cases z zs x c) [
      | inl e ↦ subst (λ y. Contains (map f (z ∷ zs)) (f y)) (sym e) (contains-here (f z) (map f zs))
      | inr d ↦ contains-later (f z) (map f zs) (f x) (map-to f zs x d)
    ]

-- If the test of the list passes, an item of it does.
pub any-from : {X : Type 0} (p : X → Bool) (xs : List X) → list_any p xs ≡ true → (x : X) × Contains xs x × (p x ≡ true)
any-from p [] e = absurd (let f : false ≡ true = e in cc)
any-from p (y ∷ ys) e =
    elim (cases_Bool (p y)) [
      | inl s ↦ (y, contains-here y ys, s)
      | inr s ↦ let rest = any-from p ys (ap (λ b. b || list_any p ys) (sym s) ∙ e) in (rest.0, contains-later y ys rest.0 rest.1, rest.2)
    ]

-- ---- messages by their places

-- What is in a list with one more item was there or is the new item.
pub get-cases : {X : Type 0} (xs : List X) (y : X) (n : ℕ) (x : X) → slice_get (xs ++ y ∷ []) n ≡ Some x
    → (slice_get xs n ≡ Some x) ⊎ ((n ≡ length xs) × (x ≡ y))
get-cases [] y zero x e = inr (refl, let s : Some y ≡ Some x = e in cc)
get-cases [] y (suc n) x e = absurd (let s : None ≡ Some x = e in cc)
get-cases (z ∷ zs) y zero x e = inl e
get-cases (z ∷ zs) y (suc n) x e =
    elim (get-cases zs y n x e) [ inl s ↦ inl s | inr s ↦ inr (ap suc s.0, s.1) ]

-- An item keeps its place when a list is appended.
pub get-kept : {X : Type 0} (xs : List X) (ys : List X) (n : ℕ) (x : X) → slice_get xs n ≡ Some x → slice_get (xs ++ ys) n ≡ Some x
get-kept [] ys n x e = absurd (let s : None ≡ Some x = e in cc)
get-kept (z ∷ zs) ys zero x e = e
get-kept (z ∷ zs) ys (suc n) x e = get-kept zs ys n x e

-- The new item is at the old length.
pub get-new : {X : Type 0} (xs : List X) (y : X) → slice_get (xs ++ y ∷ []) (length xs) ≡ Some y
get-new [] y = refl
get-new (z ∷ zs) y = get-new zs y
