-- Sorted relationships whose domains come once each.
use Rattle.std.proofs.Common.{◌≡◌, ◌↔◌, ℕ, zero, suc, ◌+◌, ◌-◌, ◌<◌, ◌≤◌, ⊎_elim, List, [], ◌∷◌, length, get_or, true}
use Rattle.std.proofs.Common.{false, Less, Equal, Greater, Some, refl, sym, ap, ◌∙◌, subst, arith, is_lt, bytes_eq}
use Rattle.std.specs.Bool.{IsTrue}
use Rattle.std.specs.Ordering.{ordering_reverse, nat_cmp}
use Rattle.std.specs.declared.cmp.Ordering.{Ordering}
use Rattle.std.specs.Cmp.{IsTotalOrder}
use Rattle.std.specs.Cmp.Lexicographic.{slice_cmp}
use Rattle.std.specs.List.{AllByRecursion}
use Rattle.std.specs.List.Sorted.{IsStrictlySortedBy, IsSorted}
use Rattle.std.proofs.lemmas.Bool.{cases_lt}
use Rattle.std.proofs.lemmas.Cmp.{nat_list_cmp_total, on_total, tied_itself}
use Rattle.std.proofs.lemmas.Map.Lookups.{exact_bytes}
use Rattle.std.proofs.lemmas.Slice.Eq.{bytes_eq-Decides}
use Rattle.fed_config.specs.Configuration.{relationship_cmp}
use Rattle.fed_config.specs.declared.relationship.Relationship.{Relationship}
use Rattle.fed_config.proofs.SetFacts.{slice_get_at}

-- the order of relationships is total
pub relationships_total : IsTotalOrder relationship_cmp
relationships_total = on_total (λ (r : Relationship). r.domain) nat_list_cmp_total

-- an element within does not depend on the default
pub same_at : {X : Type 0} (xs : List X) (k : ℕ) (d e : X) → k < length xs → get_or xs k d ≡ get_or xs k e
same_at xs k d e below = let both : Some (get_or xs k d) ≡ Some (get_or xs k e) = sym (slice_get_at xs k d below) ∙ slice_get_at xs k e below in cc

-- each of the first n is below the next
abbrev pub Rises : List Relationship → ℕ → Type 0
Rises rs n = (k : ℕ) (d : Relationship) → suc k < n → relationship_cmp (get_or rs k d) (get_or rs (suc k) d) ≡ Less

-- in a strictly sorted list each element is below the next
less_at : (rs : List Relationship) (k : ℕ) (d : Relationship) → IsStrictlySortedBy relationship_cmp rs
    → suc k < length rs → relationship_cmp (get_or rs k d) (get_or rs (suc k) d) ≡ Less
unfolding IsStrictlySortedBy
less_at [] k d rising below = absurd (omega arith)
less_at (x ∷ []) k d rising below = absurd (omega arith)
less_at (x ∷ y ∷ ys) zero d rising below = rising.0.0
less_at (x ∷ y ∷ ys) (suc k) d rising below = less_at (y ∷ ys) k d rising.1 (omega arith)

-- a relationship that is not above another and has a different domain is below it
pub below_by : (a b : Relationship) (o : Ordering) → o ≡ relationship_cmp a b → is_lt (relationship_cmp b a) ≡ false
    → bytes_eq a.domain b.domain ≡ false → relationship_cmp a b ≡ Less
below_by a b Less is up differ = sym is
below_by a b Equal is up differ = let same : bytes_eq a.domain b.domain ≡ true =
    (bytes_eq-Decides a.domain b.domain).1 (exact_bytes a.domain b.domain (sym is)) in absurd (cc)
below_by a b Greater is up differ =
    let less : relationship_cmp b a ≡ Less = relationships_total.antisymm b a ∙ ap ordering_reverse (sym is) in
    let falls : is_lt (relationship_cmp b a) ≡ true = ap is_lt less in absurd (cc)

-- if the next two domains differ, the list is strictly sorted one element further
more_at : (rs : List Relationship) (n : ℕ) (a b : Relationship) → IsSorted relationship_cmp rs → suc n < length rs
    → a ≡ get_or rs n a → b ≡ get_or rs (suc n) b → bytes_eq a.domain b.domain ≡ false → Rises rs (suc n)
    → Rises rs (suc n + 1)
more_at rs n a b sorted below first second differ rises k d within =
    ⊎_elim
    (λ (before : suc k < suc n). rises k d before)
    (λ (behind : suc n ≤ suc k).
    let here : k ≡ n = omega arith in
    let at_n : get_or rs n d ≡ a = same_at rs n d a (omega arith) ∙ sym first in
    let at_next : get_or rs (suc n) d ≡ b = same_at rs (suc n) d b below ∙ sym second in
    let step : suc n ≡ n + 1 = omega arith in
    let up : is_lt (relationship_cmp (get_or rs (n + 1) d) (get_or rs n d)) ≡ false = sorted n d (omega arith) (omega arith) in
    let up_there : is_lt (relationship_cmp b a) ≡ false =
    subst (λ (x : Relationship). is_lt (relationship_cmp x a) ≡ false)
    (ap (λ m. get_or rs m d) (sym step) ∙ at_next)
    (subst (λ (x : Relationship). is_lt (relationship_cmp (get_or rs (n + 1) d) x) ≡ false) at_n up) in
    let less : relationship_cmp a b ≡ Less = below_by a b (relationship_cmp a b) refl up_there differ in
    let left : get_or rs k d ≡ a = ap (λ m. get_or rs m d) here ∙ at_n in
    let right : get_or rs (suc k) d ≡ b = ap (λ m. get_or rs (suc m) d) here ∙ at_next in
    subst (λ (x : Relationship). relationship_cmp x (get_or rs (suc k) d) ≡ Less) (sym left)
    (subst (λ (x : Relationship). relationship_cmp a x ≡ Less) (sym right) less))
    (cases_lt (suc k) (suc n))

-- the same with the index that the loop in `are_single` has
pub single_more : (rs : List Relationship) (place : ℕ) (a b : Relationship) → IsSorted relationship_cmp rs → 1 ≤ place
    → place < length rs → a ≡ get_or rs (place - 1) a → b ≡ get_or rs place b → bytes_eq a.domain b.domain ≡ false
    → Rises rs place → Rises rs (place + 1)
single_more rs zero a b sorted some below first second differ rises = absurd (omega arith)
single_more rs (suc n) a b sorted some below first second differ rises =
    let before : suc n - 1 ≡ n = omega arith in
    more_at rs n a b sorted below (subst (λ m. a ≡ get_or rs m a) before first) second differ rises

-- if the next two domains are the same, the list is not strictly sorted
pub not_single : (rs : List Relationship) (place : ℕ) (a b : Relationship) → IsStrictlySortedBy relationship_cmp rs
    → 1 ≤ place → place < length rs → a ≡ get_or rs (place - 1) a → b ≡ get_or rs place b
    → bytes_eq a.domain b.domain ≡ true → ⊥
not_single rs zero a b rising some below first second same = absurd (omega arith)
not_single rs (suc n) a b rising some below first second same =
    let before : suc n - 1 ≡ n = omega arith in
    let left : get_or rs n a ≡ a = sym (subst (λ m. a ≡ get_or rs m a) before first) in
    let right : get_or rs (suc n) a ≡ b = same_at rs (suc n) a b below ∙ sym second in
    let less : relationship_cmp a b ≡ Less =
    subst (λ (x : Relationship). relationship_cmp a x ≡ Less) right
    (subst (λ (x : Relationship). relationship_cmp x (get_or rs (suc n) a) ≡ Less) left
    (less_at rs n a rising below)) in
    let domains : a.domain ≡ b.domain = (bytes_eq-Decides a.domain b.domain).0 same in
    let tied : relationship_cmp a b ≡ Equal = subst (λ d. slice_cmp nat_cmp a.domain d ≡ Equal) domains (tied_itself nat_list_cmp_total a.domain) in cc

-- what is below the first of a strictly sorted list is below all of it
pub below_all : (x y : Relationship) (ys : List Relationship) → relationship_cmp x y ≡ Less
    → AllByRecursion (λ z. relationship_cmp y z ≡ Less) ys → AllByRecursion (λ z. relationship_cmp x z ≡ Less) ys
below_all x y [] less all = tt
below_all x y (z ∷ ys) less all = (relationships_total.trans x y z less all.0, below_all x y ys less all.1)

-- a list whose elements are each below the next is strictly sorted
pub strict_from : (rs : List Relationship) → Rises rs (length rs) → IsStrictlySortedBy relationship_cmp rs
unfolding IsStrictlySortedBy
strict_from [] rises = tt
strict_from (x ∷ []) rises = (tt, tt)
strict_from (x ∷ y ∷ ys) rises =
    let rest = strict_from (y ∷ ys) (λ k d below. rises (suc k) d (omega arith)) in
    let first : relationship_cmp x y ≡ Less = rises 0 x (omega arith) in
    ((first, below_all x y ys first rest.0), rest)

-- a loop that reaches the end found a strictly sorted list
pub single_all : (rs : List Relationship) (place : ℕ) → length rs ≤ place → Rises rs place → IsTrue true ↔ IsStrictlySortedBy relationship_cmp rs
single_all rs place past rises = (λ h. strict_from rs (λ k d below. rises k d (omega arith)), λ h. refl)
