-- What is looked up in a sorted list: a record of distrust, and the relationship with a domain and its floor.
use Rattle.std.proofs.Common.{◌≡◌, ◌↔◌, ℕ, ◌+◌, Bool, true, false, IsTrue, List, [], ◌∷◌, length}
use Rattle.std.proofs.Common.{get_or, Result, Ok, Err, inl, inr, refl, sym, ap, ◌∙◌, subst, arith}
use Rattle.std.specs.Prelude.{Contains, is_ok, MatchBool}
use Rattle.std.specs.declared.cmp.Ordering.{Ordering}
use Rattle.std.specs.declared.cmp.Ordering.TheVariants.{Less, Equal, Greater}
use Rattle.std.specs.Ordering.{is_lt, is_le, ordering_reverse}
use Rattle.std.specs.Cmp.{IsTotalOrder, tied_itself}
use Rattle.std.specs.List.{IsAllAdjacentAnswer}
use Rattle.std.specs.List.Sorted.{IsSorted, IsStrictlySortedBy, IsBinarySearchResult, IsSearchInRange}
use Rattle.std.proofs.lemmas.Bool.{cases_lt}
use Rattle.std.proofs.lemmas.Cmp.{nat_list_cmp_total}
use Rattle.std.proofs.lemmas.List.Sorted.{searchable_from_sorted}
use Rattle.std.proofs.lemmas.Map.Keys.{sorted_head, sorted_tail}
use Rattle.fed_config.specs.Configuration.{Configuration, IsConfiguration, ReachesFloor, domain_cmp, relationship_cmp}
use Rattle.fed_config.specs.declared.relationship.Relationship.{Relationship}
use Rattle.receipt_core.specs.Receipt.{Receipt}
use Rattle.receipt_core.specs.Acceptance.{IsFitting, MissesFloor}
use Rattle.receipt_core.proofs.RisingFacts.{Has, Has-from_contains, each_has}

-- ---- a binary search

-- in an order, what is at most the next is not above it
no_more : (a b : Ordering) → b ≡ ordering_reverse a → is_le a ≡ true → is_lt b ≡ false
no_more Less b e h = ap is_lt e
no_more Equal b e h = ap is_lt e
no_more Greater b e h = absurd (cc)

module _ {A : Type 0} {R : A → A → Ordering} (o : IsTotalOrder R) where
  -- what `is_sorted` says if it says yes
  pub sorted_by_neighbours : (xs : List A) (r : Bool) → IsTrue r → IsAllAdjacentAnswer (λ x y b. is_le (R x y) ≡ b) xs r → IsSorted R xs
  sorted_by_neighbours xs false t all k d low below = absurd (cc)
  sorted_by_neighbours xs true t all k d low below =
      let here = get_or xs k d in
      let next = get_or xs (k + 1) d in
      no_more (R here next) (R next here) (o.antisymm next here) (all k d below)

  -- what a binary search finds in a sorted list is just what the list has
  pub found_exactly : (xs : List A) (x : A) (r : Result ℕ ℕ) → ((a b : A) → R a b ≡ Equal → a ≡ b) → IsSorted R xs
      → IsSearchInRange r (length xs) → IsBinarySearchResult (λ y. R y x) xs r → IsTrue (is_ok r) ↔ Contains xs x
  found_exactly xs x (Ok k) exact sorted below here = (λ t. (k, below, exact (get_or xs k x) x (here x)), λ has. refl)
  found_exactly xs x (Err k) exact sorted below splits = (
    λ t. absurd (cc),
    λ has.
        let split = splits (searchable_from_sorted o (λ (y : A). y) xs x sorted) in
        let tied : R (get_or xs has.0 x) x ≡ Equal = ap (λ y. R y x) has.2 ∙ tied_itself o x in
        absurd (elim (cases_lt has.0 k) [
          | inl before ↦ let less = split.0 has.0 x (omega arith) before in cc
          | inr behind ↦ let greater = split.1 has.0 x behind has.1 in cc
        ]),
  )

-- ---- one relationship with a domain

-- a domain does not come before itself
less_itself : (d : List ℕ) → domain_cmp d d ≡ Less → ⊥
less_itself d h = let tied : domain_cmp d d ≡ Equal = tied_itself nat_list_cmp_total d in cc

-- sorted relationships have only one with a domain
one_of : (xs : List Relationship) (x y : Relationship) → IsStrictlySortedBy relationship_cmp xs → Has xs x → Has xs y
    → x.domain ≡ y.domain → x ≡ y
one_of [] x y rising p q e = absurd p
one_of (z ∷ xs) x y rising p q e =
    let above = sorted_head relationship_cmp z xs rising in
    elim p [
      | inl first ↦ elim q [
        | inl same ↦ sym first ∙ same
        | inr later ↦ absurd
            (less_itself y.domain (subst (λ (d : List ℕ). domain_cmp d y.domain ≡ Less) (ap (λ (r : Relationship). r.domain) first ∙ e)
            (each_has (λ w. relationship_cmp z w ≡ Less) xs y above later)))
      ]
      | inr after ↦ elim q [
        | inl same ↦ absurd
            (less_itself x.domain (subst (λ (d : List ℕ). domain_cmp d x.domain ≡ Less) (ap (λ (r : Relationship). r.domain) same ∙ sym e)
            (each_has (λ w. relationship_cmp z w ≡ Less) xs x above after)))
        | inr later ↦ one_of xs x y (sorted_tail relationship_cmp z xs rising) after later e
      ]
    ]

-- a configuration has one relationship with a domain
pub one_relationship : (c : Configuration) (x y : Relationship) → IsConfiguration c → Contains c.relationships x
    → Contains c.relationships y → x.domain ≡ y.domain → x ≡ y
one_relationship c x y form p q e =
    one_of c.relationships x y form.rising_relationships (Has-from_contains c.relationships x p) (Has-from_contains c.relationships y q) e

-- A receipt with the endpoint of the relationship with its domain fits exactly if it reaches the floor.
pub fits_stated : (c : Configuration) (x : Relationship) (r : Receipt) (b : Bool) → Contains c.relationships x → x.domain ≡ r.domain
    → x.endpoint ≡ r.endpoint → MatchBool b (ReachesFloor c r.domain r.document) (MissesFloor c r.domain r.document) → IsTrue b ↔ IsFitting c r
fits_stated c x r true has domain endpoint floor = (
  λ t. record { relationship = x; has = has; domain = domain; endpoint = endpoint; reaches = floor },
  λ f. refl,
)
fits_stated c x r false has domain endpoint floor = (λ t. absurd (cc), λ f. absurd (floor.below (f.reaches floor.floor floor.has floor.of_domain)))

-- A receipt with another endpoint than the relationship with its domain does not fit.
pub misfit_stated : (c : Configuration) (x : Relationship) (r : Receipt) → IsConfiguration c → Contains c.relationships x → x.domain ≡ r.domain
    → (x.endpoint ≡ r.endpoint → ⊥) → IsFitting c r → ⊥
misfit_stated c x r form has domain other f =
    let one : f.relationship ≡ x = one_relationship c f.relationship x form f.has has (f.domain ∙ sym domain) in
    other (sym (ap (λ (y : Relationship). y.endpoint) one) ∙ f.endpoint)
