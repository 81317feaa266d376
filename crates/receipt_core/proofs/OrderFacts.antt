-- The order of texts, piece by piece.
use Rattle.std.proofs.Common.{◌≡◌, ℕ, ◌<◌, List, [], ◌∷◌, ◌++◌, refl, ap, sym, ◌∙◌, arith, append-nil, inl, inr, Bool, IsTrue, ◌↔◌, ◌==◌}
use Rattle.std.proofs.lemmas.Bool.{cases_lt}
use Rattle.std.proofs.lemmas.Bool.Decides.{nat_tests}
use Rattle.std.specs.declared.cmp.Ordering.{Ordering}
use Rattle.std.specs.declared.cmp.Ordering.TheVariants.{Less, Equal, Greater}
use Rattle.std.specs.Ordering.{nat_cmp, ordering_then, ordering_index}
use Rattle.std.specs.Cmp.{nat_cmp_total, tied_itself}
use Rattle.std.specs.Cmp.Lexicographic.{slice_cmp}
use Rattle.std.specs.List.{AllByRecursion}

-- it makes no difference how three orders in turn are bracketed
pub then_assoc : (a b c : Ordering) → ordering_then (ordering_then a b) c ≡ ordering_then a (ordering_then b c)
then_assoc Less b c = refl
then_assoc Equal b c = refl
then_assoc Greater b c = refl

-- two orders in turn tie only if both do
pub both_equal : (a b : Ordering) → ordering_then a b ≡ Equal → (a ≡ Equal) × (b ≡ Equal)
both_equal Less b h = absurd (cc)
both_equal Equal b h = (refl, h)
both_equal Greater b h = absurd (cc)

-- what is in front of both makes no difference
pub behind : (front x y : List ℕ) → slice_cmp nat_cmp (front ++ x) (front ++ y) ≡ slice_cmp nat_cmp x y
behind [] x y = refl
behind (b ∷ front) x y = ap (λ o. ordering_then o (slice_cmp nat_cmp (front ++ x) (front ++ y))) (tied_itself nat_cmp_total b) ∙ behind front x y

-- bytes that tie are equal
pub equal_bytes : (b c : ℕ) → nat_cmp b c ≡ Equal → b ≡ c
equal_bytes b c h = grind (arith, nat_tests)

-- neither text is a proper beginning of the other
abbrev pub Apart : List ℕ → List ℕ → Type 0
Apart x y = (u v : List ℕ) → x ++ u ≡ y ++ v → x ≡ y

-- texts of which neither is a proper beginning of the other are so without an equal first byte too
apart_tails : (b c : ℕ) (x y : List ℕ) → b ≡ c → Apart (b ∷ x) (c ∷ y) → Apart x y
apart_tails b c x y e h = λ u v same.
    let whole : b ∷ x ≡ c ∷ y = h u v (λ i. e i ∷ same i) in
    cc

-- the induction step of the orders of whole texts: what follows the first bytes counts only if
-- these tie
by_order : (o whole inner outer : Ordering) → (o ≡ Equal → whole ≡ ordering_then inner outer)
    → ordering_then o whole ≡ ordering_then (ordering_then o inner) outer
by_order Less whole inner outer h = refl
by_order Equal whole inner outer h = h refl
by_order Greater whole inner outer h = refl

-- texts of which neither is a proper beginning of the other decide, and else what follows does
pub first_apart : (x y u v : List ℕ) → Apart x y → slice_cmp nat_cmp (x ++ u) (y ++ v) ≡ ordering_then (slice_cmp nat_cmp x y) (slice_cmp nat_cmp u v)
first_apart [] [] u v h = refl
first_apart [] (c ∷ y) u v h = let bad : [] ≡ c ∷ y = h (c ∷ y) [] (sym (append-nil (c ∷ y))) in absurd (cc)
first_apart (b ∷ x) [] u v h = let bad : b ∷ x ≡ [] = h [] (b ∷ x) (append-nil (b ∷ x)) in absurd (cc)
first_apart (b ∷ x) (c ∷ y) u v h =
    by_order (nat_cmp b c) _ _ _ (λ e. first_apart x y u v (apart_tails b c x y (equal_bytes b c e) h))

-- a lesser number is found less; the next two are for a greater and for an equal one
pub cmp_less : (b c : ℕ) → b < c → nat_cmp b c ≡ Less
cmp_less b c h = grind (arith, nat_tests)

-- a greater number is found greater
pub cmp_greater : (b c : ℕ) → c < b → nat_cmp b c ≡ Greater
cmp_greater b c h = grind (arith, nat_tests)

-- equal numbers tie
pub cmp_equal : (b c : ℕ) → b ≡ c → nat_cmp b c ≡ Equal
cmp_equal b c e = grind (arith, nat_tests)

-- what holds if one number is less, equal or greater holds of any two
pub by_order_of : (P : ℕ → ℕ → Type 0) (b c : ℕ) → (b < c → P b c) → (b ≡ c → P b c) → (c < b → P b c) → P b c
by_order_of P b c less equal greater = elim (cases_lt b c) [ inl h ↦ less h | inr h ↦ elim (cases_lt c b) [ inl k ↦ greater k | inr k ↦ equal (omega arith) ] ]

-- each byte is above a mark
abbrev pub Above : ℕ → List ℕ → Type 0
Above mark = AllByRecursion (λ b. mark < b)

-- texts with a mark after each that is below all their bytes decide, and else what follows does
pub first_marked : (mark : ℕ) (x y u v : List ℕ) → Above mark x → Above mark y
    → slice_cmp nat_cmp (x ++ mark ∷ u) (y ++ mark ∷ v) ≡ ordering_then (slice_cmp nat_cmp x y) (slice_cmp nat_cmp u v)
first_marked mark [] [] u v p q = ap (λ o. ordering_then o (slice_cmp nat_cmp u v)) (tied_itself nat_cmp_total mark)
first_marked mark [] (c ∷ y) u v p q = ap (λ o. ordering_then o (slice_cmp nat_cmp u (y ++ mark ∷ v))) (cmp_less mark c q.0)
first_marked mark (b ∷ x) [] u v p q = ap (λ o. ordering_then o (slice_cmp nat_cmp (x ++ mark ∷ u) v)) (cmp_greater b mark p.0)
first_marked mark (b ∷ x) (c ∷ y) u v p q =
    by_order (nat_cmp b c) _ _ _ (λ _. first_marked mark x y u v p.1 q.1)

-- a tie that comes second changes nothing
pub then_equal : (o : Ordering) → ordering_then o Equal ≡ o
then_equal Less = refl
then_equal Equal = refl
then_equal Greater = refl

-- an order that finds two things equal exactly if they are is a test of sameness
pub states_same : {A : Type 0} (x y : A) (o : Ordering) (b : Bool) → b ≡ (ordering_index o == 1) → (o ≡ Equal → x ≡ y) → (x ≡ y → o ≡ Equal)
    → IsTrue b ↔ (x ≡ y)
states_same x y Less b e p q = (λ t. absurd (cc), λ same. let no = q same in absurd (cc))
states_same x y Equal b e p q = (λ t. p refl, λ same. e)
states_same x y Greater b e p q = (λ t. absurd (cc), λ same. let no = q same in absurd (cc))
