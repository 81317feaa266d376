-- A property is that of one number of things
use Rattle.std.proofs.Common.{◌≡◌, ℕ, ◌≤◌, inl, inr, List, [], ◌∷◌, ◌++◌, length, refl, sym, ap, subst, arith}
use Rattle.std.specs.List.{Contains, sum_by}
use Rattle.std.proofs.lemmas.List.{length-append}
use Rattle.std.proofs.lemmas.List.Sums.{sum_by-append, sum_by-cons}
use Rattle.std.proofs.lemmas.List.Elements.{Contains-append_left, Contains-append_right, Contains-append_cases}
use Rattle.closure_core.specs.Count.{AreDifferent, IsCount}
use Rattle.closure_core.proofs.ContainsFacts.{contains_first, contains_later, contains_none, contains_cases}

-- the list is cut at one item
record IsCutAt {T : Type 0} (xs : List T) (x : T) : Type 0 where
  pub front : List T
  pub back : List T
  pub whole : xs ≡ front ++ x ∷ back

-- A list can be cut at each item that it contains.
cut_at : {T : Type 0} (xs : List T) (x : T) → Contains xs x → IsCutAt xs x
cut_at [] x has = absurd (contains_none x has)
cut_at (y ∷ ys) x has = elim (contains_cases y ys x has) [
  | inl same ↦ record { front = []; back = ys; whole = subst (λ z. y ∷ ys ≡ z ∷ ys) same refl }
  | inr later ↦
      let cut = cut_at ys x later in
      record { front = y ∷ cut.front; back = cut.back; whole = subst (λ zs. y ∷ ys ≡ y ∷ zs) cut.whole refl }
]

-- When one item is cut out, each other one is still there.
without : {T : Type 0} (front back : List T) (x y : T) → (x ≡ y → ⊥) → Contains (front ++ x ∷ back) y → Contains (front ++ back) y
without front back x y other has = elim (Contains-append_cases front (x ∷ back) y has) [
  | inl here ↦ Contains-append_left front back y here
  | inr there ↦ elim (contains_cases x back y there) [
    | inl same ↦ absurd (other same)
    | inr later ↦ Contains-append_right front back y later
  ]
]

-- Different items that are all in a list are at most the length of the list.
pub no_longer : {T : Type 0} (xs ys : List T) → AreDifferent xs → ((x : T) → Contains xs x → Contains ys x) → length xs ≤ length ys
no_longer [] ys different within = omega arith
no_longer {T = T} (x ∷ xs) ys different within =
    let cut : IsCutAt ys x = cut_at ys x (within x (contains_first x xs)) in
    let rest : (y : T) → Contains xs y → Contains (cut.front ++ cut.back) y =
    λ y has. without cut.front cut.back x y (λ same. different.0 (subst (Contains xs) (sym same) has))
    (subst (λ zs. Contains zs y) cut.whole (within y (contains_later x xs y has))) in
    let fewer : length xs ≤ length (cut.front ++ cut.back) = no_longer xs (cut.front ++ cut.back) different.1 rest in
    let size : length ys ≡ length (cut.front ++ x ∷ cut.back) = subst (λ zs. length ys ≡ length zs) cut.whole refl in
    omega (arith, length-append cut.front cut.back, length-append cut.front (x ∷ cut.back))

-- things that are among others add up to no more
pub no_more : {T : Type 0} (f : T → ℕ) (xs ys : List T) → AreDifferent xs
    → ((x : T) → Contains xs x → Contains ys x) → sum_by f xs ≤ sum_by f ys
no_more f [] ys different within = omega arith
no_more {T = T} f (x ∷ xs) ys different within =
    let cut : IsCutAt ys x = cut_at ys x (within x (contains_first x xs)) in
    let rest : (y : T) → Contains xs y → Contains (cut.front ++ cut.back) y =
    λ y has. without cut.front cut.back x y
    (λ same. different.0 (subst (Contains xs) (sym same) has))
    (subst (λ zs. Contains zs y) cut.whole (within y (contains_later x xs y has))) in
    let fewer : sum_by f xs ≤ sum_by f (cut.front ++ cut.back) = no_more f xs
    (cut.front ++ cut.back) different.1 rest in
    let whole : sum_by f ys ≡ sum_by f (cut.front ++ x ∷ cut.back) = ap (sum_by f) cut.whole in
    omega (
      arith,
      whole,
      fewer,
      sum_by-cons f x xs,
      sum_by-append f cut.front cut.back,
      sum_by-append f cut.front (x ∷ cut.back),
      sum_by-cons f x cut.back,
    )

-- Two counts of one property are equal: so a call can return only a number.
pub one_count : {T : Type 0} (P : T → Type 0) (n k : ℕ) → IsCount P n → IsCount P k → n ≡ k
one_count P n k a b =
    let less : length a.items ≤ length b.items = no_longer a.items b.items a.different (λ x has. (b.exactly x).1 ((a.exactly x).0 has)) in
    let more : length b.items ≤ length a.items = no_longer b.items a.items b.different (λ x has. (a.exactly x).1 ((b.exactly x).0 has)) in
    let na = a.count in
    let nb = b.count in
    omega arith

-- Properties of the same things have one count.
pub counted_alike : {T : Type 0} (P Q : T → Type 0) (n : ℕ) → ((x : T) → P x → Q x) → ((x : T) → Q x → P x) → IsCount P n → IsCount Q n
counted_alike P Q n to from h = record {
  items = h.items;
  different = h.different;
  exactly = λ x. (λ has. to x ((h.exactly x).0 has), λ q. (h.exactly x).1 (from x q));
  count = h.count;
}
