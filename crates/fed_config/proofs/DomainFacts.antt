-- The domains of a configuration have one strictly sorted list, and are found in it; so are
-- relationships and floors.
use Rattle.std.proofs.Common.{◌≡◌, ℕ, inl, inr, List, [], ◌∷◌, length, get_or, Result, Ok, Err, Some, Less, Equal, Greater, refl, sym, ap, ◌∙◌, subst}
use Rattle.std.specs.Ordering.{nat_cmp, ordering_index}
use Rattle.std.specs.Result.{result_ok}
use Rattle.std.specs.Cmp.Lexicographic.{slice_cmp}
use Rattle.std.specs.List.{AllByRecursion, Contains, slice_get}
use Rattle.std.specs.List.Sorted.{IsStrictlySortedBy, IsSearchInRange, IsBinarySearchResult, IsNonDecreasingBy, IsPartitionPoint}
use Rattle.std.proofs.lemmas.Cmp.{nat_list_cmp_total, on_total, tied_itself}
use Rattle.std.proofs.lemmas.Map.Lookups.{exact_bytes}
use Rattle.fed_config.specs.Configuration.{Configuration, AreDomains, IsPlace, domain_cmp, floor_cmp, relationship_cmp}
use Rattle.fed_config.specs.declared.floor.Floor.{Floor}
use Rattle.fed_config.specs.declared.relationship.Relationship.{Relationship}
use Rattle.fed_config.proofs.SetFacts.{Has, each_has, Has-Contains, Contains-Has, slice_get_at, rising_same, sorted, not_found}

-- the domains of a configuration have one strictly sorted list
pub one_list : (c : Configuration) (ds es : List (List ℕ)) → AreDomains c ds → AreDomains c es → ds ≡ es
one_list c ds es p q =
    rising_same nat_list_cmp_total ds es p.rising q.rising
    (λ d h. Has-Contains es d (q.complete d (p.sound d (Contains-Has ds d h))))
    (λ d h. Has-Contains ds d (p.complete d (q.sound d (Contains-Has es d h))))

-- a binary search returns the domain's place among the configuration's domains, or none if it is
-- not one of them
pub place_found : (c : Configuration) (ds : List (List ℕ)) (domain : List ℕ) (r : Result ℕ ℕ) → AreDomains c ds
    → IsSearchInRange r (length ds) → IsBinarySearchResult (λ d. slice_cmp nat_cmp d domain) ds r
    → IsPlace c domain (result_ok r)
place_found c ds domain (Ok i) are within position =
    λ es others.
    subst (λ l. slice_get l i ≡ Some domain) (one_list c ds es are others)
    (slice_get_at ds i domain within ∙ ap Some (exact_bytes (get_or ds i domain) domain (position domain)))
place_found c ds domain (Err i) are within position =
    λ h. not_found nat_list_cmp_total (λ d. d) ds domain i (sorted nat_list_cmp_total ds are.rising) position domain (are.complete domain h) refl

-- if a binary search finds none, no relationship has the domain
pub relationship_not_found : (rs : List Relationship) (domain : List ℕ) (i : ℕ) → IsStrictlySortedBy relationship_cmp rs
    → (IsNonDecreasingBy (λ r. ordering_index (slice_cmp nat_cmp r.domain domain)) rs
    → IsPartitionPoint (λ r. slice_cmp nat_cmp r.domain domain ≡ Less)
    (λ r. slice_cmp nat_cmp r.domain domain ≡ Greater) rs i)
    → (r : Relationship) → Contains rs r → r.domain ≡ domain → ⊥
relationship_not_found rs domain i rising splits =
    not_found nat_list_cmp_total (λ r. r.domain) rs domain i (sorted (on_total (λ (r : Relationship). r.domain) nat_list_cmp_total) rs rising) splits

-- if a binary search finds none, no floor has the domain
pub floor_not_found : (fs : List Floor) (domain : List ℕ) (i : ℕ) → IsStrictlySortedBy floor_cmp fs
    → (IsNonDecreasingBy (λ f. ordering_index (slice_cmp nat_cmp f.domain domain)) fs
    → IsPartitionPoint (λ f. slice_cmp nat_cmp f.domain domain ≡ Less)
    (λ f. slice_cmp nat_cmp f.domain domain ≡ Greater) fs i)
    → (f : Floor) → Contains fs f → f.domain ≡ domain → ⊥
floor_not_found fs domain i rising splits =
    not_found nat_list_cmp_total (λ f. f.domain) fs domain i (sorted (on_total (λ (f : Floor). f.domain) nat_list_cmp_total) fs rising) splits

-- a floor that is below others has another domain than each of them
below_differs : (f g : Floor) (others : List Floor) → AllByRecursion (λ h. floor_cmp f h ≡ Less) others → Has others g
    → f.domain ≡ g.domain → ⊥
below_differs f g others below has same =
    let less : floor_cmp f g ≡ Less = each_has _ others g below has in
    let tied : floor_cmp f g ≡ Equal = subst (λ d. slice_cmp nat_cmp f.domain d ≡ Equal) same (tied_itself nat_list_cmp_total f.domain) in cc

-- at most one of strictly sorted floors has a domain
one_floor : (fs : List Floor) (f g : Floor) → IsStrictlySortedBy floor_cmp fs → Has fs f → Has fs g → f.domain ≡ g.domain → f ≡ g
unfolding IsStrictlySortedBy
one_floor [] f g rising p q same = absurd p
one_floor (x ∷ fs) f g rising (inl p) (inl q) same = p ∙ sym q
one_floor (x ∷ fs) f g rising (inl p) (inr q) same = absurd (below_differs x g fs rising.0 q (ap (λ (h : Floor). h.domain) (sym p) ∙ same))
one_floor (x ∷ fs) f g rising (inr p) (inl q) same = absurd (below_differs x f fs rising.0 p (ap (λ (h : Floor). h.domain) (sym q) ∙ sym same))
one_floor (x ∷ fs) f g rising (inr p) (inr q) same = one_floor fs f g rising.1 p q same

-- the same for members by their places
pub same_floor : (fs : List Floor) (f g : Floor) → IsStrictlySortedBy floor_cmp fs → Contains fs f → Contains fs g → f.domain ≡ g.domain → f ≡ g
same_floor fs f g rising p q = one_floor fs f g rising (Has-Contains fs f p) (Has-Contains fs g q)

-- if a binary search finds none, the domain is not a member
pub domain_not_found : (ds : List (List ℕ)) (domain : List ℕ) (i : ℕ) → IsStrictlySortedBy domain_cmp ds
    → (IsNonDecreasingBy (λ d. ordering_index (slice_cmp nat_cmp d domain)) ds
    → IsPartitionPoint (λ d. slice_cmp nat_cmp d domain ≡ Less)
    (λ d. slice_cmp nat_cmp d domain ≡ Greater) ds i)
    → (d : List ℕ) → Contains ds d → d ≡ domain → ⊥
domain_not_found ds domain i rising splits = not_found nat_list_cmp_total (λ d. d) ds domain i (sorted nat_list_cmp_total ds rising) splits
