-- Lists side by side, and loops over them.
use Rattle.std.proofs.Common.{◌≡◌, inl, inr, ℕ, zero, suc, ◌+◌, ◌<◌, ◌≤◌, List, [], ◌∷◌, ◌++◌, length, get_or, take, map, refl, sym, ap, subst, arith, add-one}
use Rattle.std.specs.List.{AllByRecursion, AllZip}
use Rattle.fed_config.proofs.SetFacts.{Has}

module _ {X Y : Type 0} (R : X → Y → Type 0) where
  -- one more of each, with the length as a successor
  push_suc : (xs : List X) (ys : List Y) (i : ℕ) (x : X) (y : Y) → i < length xs → x ≡ get_or xs i x
      → AllZip R (take i xs) ys → R x y → AllZip R (take (suc i) xs) (ys ++ y ∷ [])
  push_suc [] ys i x y below at zip one = absurd (omega arith)
  push_suc (z ∷ xs) [] zero x y below at zip one = (subst (λ w. R w y) at one, tt)
  push_suc (z ∷ xs) (w ∷ ys) zero x y below at zip one = absurd zip
  push_suc (z ∷ xs) [] (suc i) x y below at zip one = absurd zip
  push_suc (z ∷ xs) (w ∷ ys) (suc i) x y below at zip one = (zip.0, push_suc xs ys i x y (omega arith) at zip.1 one)

  -- one more of each: the step of the loops that read a list
  pub zip_more : (xs : List X) (ys : List Y) (i : ℕ) (x : X) (y : Y) → i < length xs → x ≡ get_or xs i x
      → AllZip R (take i xs) ys → R x y → AllZip R (take (i + 1) xs) (ys ++ y ∷ [])
  zip_more xs ys i x y below at zip one = subst (λ n. AllZip R (take n xs) (ys ++ y ∷ [])) (sym (add-one i)) (push_suc xs ys i x y below at zip one)

  -- a loop that reaches the end has read all
  pub zip_all : (xs : List X) (ys : List Y) (i : ℕ) → length xs ≤ i → AllZip R (take i xs) ys → AllZip R xs ys
  zip_all [] ys zero past zip = zip
  zip_all [] ys (suc i) past zip = zip
  zip_all (x ∷ xs) ys zero past zip = absurd (omega arith)
  zip_all (x ∷ xs) [] (suc i) past zip = absurd zip
  zip_all (x ∷ xs) (y ∷ ys) (suc i) past zip = (zip.0, zip_all xs ys i (omega arith) zip.1)

  -- lists are not side by side if an element can have nothing next to it
  pub zip_none : (xs : List X) (ys : List Y) (i : ℕ) (x : X) → i < length xs → x ≡ get_or xs i x → ((y : Y) → R x y → ⊥) → AllZip R xs ys → ⊥
  zip_none [] ys i x below at none zip = absurd (omega arith)
  zip_none (z ∷ xs) [] i x below at none zip = zip
  zip_none (z ∷ xs) (y ∷ ys) zero x below at none zip = none y (subst (λ w. R w y) (sym at) zip.0)
  zip_none (z ∷ xs) (y ∷ ys) (suc i) x below at none zip = zip_none xs ys i x (omega arith) at none zip.1

  -- lists side by side have one length
  pub zip_length : (xs : List X) (ys : List Y) → AllZip R xs ys → length xs ≡ length ys
  zip_length [] [] zip = refl
  zip_length [] (y ∷ ys) zip = absurd zip
  zip_length (x ∷ xs) [] zip = absurd zip
  zip_length (x ∷ xs) (y ∷ ys) zip = ap suc (zip_length xs ys zip.1)

  -- if each element determines what is next to it, the list determines the other
  pub zip_one : ((x : X) (y z : Y) → R x y → R x z → y ≡ z) → (xs : List X) (ys zs : List Y) → AllZip R xs ys → AllZip R xs zs → ys ≡ zs
  zip_one one [] [] [] p q = refl
  zip_one one [] (y ∷ ys) zs p q = absurd p
  zip_one one [] [] (z ∷ zs) p q = absurd q
  zip_one one (x ∷ xs) [] zs p q = absurd p
  zip_one one (x ∷ xs) (y ∷ ys) [] p q = absurd q
  zip_one one (x ∷ xs) (y ∷ ys) (z ∷ zs) p q = let first = one x y z p.0 q.0 in let rest = zip_one one xs ys zs p.1 q.1 in cc

  -- a member of the right list has one of the left list next to it
  pub zip_left : (xs : List X) (ys : List Y) (y : Y) → AllZip R xs ys → Has ys y → (x : X) × Has xs x × R x y
  zip_left [] [] y zip h = absurd h
  zip_left [] (z ∷ ys) y zip h = absurd zip
  zip_left (x ∷ xs) [] y zip h = absurd zip
  zip_left (x ∷ xs) (z ∷ ys) y zip (inl e) = (x, inl refl, subst (R x) (sym e) zip.0)
  zip_left (x ∷ xs) (z ∷ ys) y zip (inr h) = let rest = zip_left xs ys y zip.1 h in (rest.0, inr rest.1, rest.2)

  -- what the relation shows of each left element holds of the left list
  pub each_left : (P : X → Type 0) → ((x : X) (y : Y) → R x y → P x) → (xs : List X) (ys : List Y) → AllZip R xs ys → AllByRecursion P xs
  each_left P step [] [] zip = tt
  each_left P step [] (y ∷ ys) zip = tt
  each_left P step (x ∷ xs) [] zip = absurd zip
  each_left P step (x ∷ xs) (y ∷ ys) zip = (step x y zip.0, each_left P step xs ys zip.1)

  -- what the relation shows of each right element holds of the right list
  pub each_right : (P : Y → Type 0) → ((x : X) (y : Y) → R x y → P y) → (xs : List X) (ys : List Y) → AllZip R xs ys → AllByRecursion P ys
  each_right P step [] [] zip = tt
  each_right P step [] (y ∷ ys) zip = absurd zip
  each_right P step (x ∷ xs) [] zip = absurd zip
  each_right P step (x ∷ xs) (y ∷ ys) zip = (step x y zip.0, each_right P step xs ys zip.1)

-- elements whose images are related are related as the list of images
pub zip_map : {X Y Z : Type 0} (R : Y → Z → Type 0) (f : X → Y) (xs : List X) (zs : List Z) → AllZip (λ x z. R (f x) z) xs zs → AllZip R (map f xs) zs
zip_map R f [] [] zip = tt
zip_map R f [] (z ∷ zs) zip = zip
zip_map R f (x ∷ xs) [] zip = zip
zip_map R f (x ∷ xs) (z ∷ zs) zip = (zip.0, zip_map R f xs zs zip.1)

-- the other way round
pub zip_unmap : {X Y Z : Type 0} (R : Y → Z → Type 0) (f : X → Y) (xs : List X) (zs : List Z) → AllZip R (map f xs) zs → AllZip (λ x z. R (f x) z) xs zs
zip_unmap R f [] [] zip = tt
zip_unmap R f [] (z ∷ zs) zip = zip
zip_unmap R f (x ∷ xs) [] zip = zip
zip_unmap R f (x ∷ xs) (z ∷ zs) zip = (zip.0, zip_unmap R f xs zs zip.1)

-- the same for images on the right
pub zip_map_right : {X Y Z : Type 0} (R : X → Z → Type 0) (f : Y → Z) (xs : List X) (ys : List Y) → AllZip (λ x y. R x (f y)) xs ys → AllZip R xs (map f ys)
zip_map_right R f [] [] zip = tt
zip_map_right R f [] (y ∷ ys) zip = zip
zip_map_right R f (x ∷ xs) [] zip = zip
zip_map_right R f (x ∷ xs) (y ∷ ys) zip = (zip.0, zip_map_right R f xs ys zip.1)

module _ {X : Type 0} (P : X → Type 0) where
  -- one more has the property, with the length as a successor
  each_suc : (xs : List X) (i : ℕ) (x : X) → i < length xs → x ≡ get_or xs i x → AllByRecursion P (take i xs) → P x → AllByRecursion P (take (suc i) xs)
  each_suc [] i x below at each one = absurd (omega arith)
  each_suc (z ∷ xs) zero x below at each one = (subst P at one, tt)
  each_suc (z ∷ xs) (suc i) x below at each one = (each.0, each_suc xs i x (omega arith) at each.1 one)

  -- one more has the property: the step of a loop that tests each element
  pub each_more : (xs : List X) (i : ℕ) (x : X) → i < length xs → x ≡ get_or xs i x → AllByRecursion P (take i xs) → P x → AllByRecursion P (take (i + 1) xs)
  each_more xs i x below at each one = subst (λ n. AllByRecursion P (take n xs)) (sym (add-one i)) (each_suc xs i x below at each one)

  -- a loop that reaches the end tested all elements
  pub each_all : (xs : List X) (i : ℕ) → length xs ≤ i → AllByRecursion P (take i xs) → AllByRecursion P xs
  each_all [] i past each = tt
  each_all (x ∷ xs) zero past each = absurd (omega arith)
  each_all (x ∷ xs) (suc i) past each = (each.0, each_all xs i (omega arith) each.1)

  -- what holds of each element holds of the one at an index
  pub each_at : (xs : List X) (i : ℕ) (x : X) → i < length xs → x ≡ get_or xs i x → AllByRecursion P xs → P x
  each_at [] i x below at each = absurd (omega arith)
  each_at (z ∷ xs) zero x below at each = subst P (sym at) each.0
  each_at (z ∷ xs) (suc i) x below at each = each_at xs i x (omega arith) at each.1

-- what holds of each image holds of each element's image
pub each_map : {X Y : Type 0} (P : Y → Type 0) (f : X → Y) (xs : List X) → AllByRecursion P (map f xs) → AllByRecursion (λ x. P (f x)) xs
each_map P f [] each = tt
each_map P f (x ∷ xs) each = (each.0, each_map P f xs each.1)

-- the other way round
pub each_unmap : {X Y : Type 0} (P : Y → Type 0) (f : X → Y) (xs : List X) → AllByRecursion (λ x. P (f x)) xs → AllByRecursion P (map f xs)
each_unmap P f [] each = tt
each_unmap P f (x ∷ xs) each = (each.0, each_unmap P f xs each.1)
