-- The last of the accepted documents is the current one, and the only one.
use Rattle.std.proofs.Common.{◌≡◌, ℕ, inl, inr, List, [], ◌∷◌, ◌-◌, length, Option, Some, None, Less, arith, refl, sym, ap, subst, ◌∙◌}
use Rattle.std.specs.List.{Contains, last_or, slice_get}
use Rattle.std.specs.List.Sorted.{IsStrictlySortedBy}
use Rattle.bundle_doc.specs.Bundle.{Bundle}
use Rattle.receipt_core.specs.Receipt.{Pair}
use Rattle.receipt_core.specs.Acceptance.{Meaning, IsMember}
use Rattle.closure_core.specs.Alike.{AreAlike}
use Rattle.closure_core.specs.AcceptedList.{document_cmp, document_of, IsAcceptedList}
use Rattle.closure_core.specs.Order.{document_total}
use Rattle.bundle_view.specs.Current.{IsCurrent, IsNoLower}
use Rattle.closure_core.proofs.ContainsFacts.{contains_first, contains_later, contains_none, contains_cases}
use Rattle.closure_core.proofs.MemberFacts.{alike_turned, member_alike}
use Rattle.bundle_view.proofs.RisingListFacts.{not_below_itself, not_both, rising_first, rising_rest, only_one}

-- it is among them, and none is greater
abbrev IsTop : List Bundle → Option Bundle → Type 0
IsTop ds None = ⊥
IsTop ds (Some d) = Contains ds d × ((e : Bundle) → Contains ds e → document_cmp d e ≡ Less → ⊥)

-- the greatest of a list's rest is the greatest of the list, since the first is the least
top_more : (x : Bundle) (ds : List Bundle) (o : Option Bundle) → IsStrictlySortedBy document_cmp (x ∷ ds) → IsTop ds o → IsTop (x ∷ ds) o
top_more x ds None rising top = top
top_more x ds (Some d) rising top = (
  contains_later x ds d top.0,
  λ e has less. elim (contains_cases x ds e has) [
    | inl same ↦ not_both document_total x d (rising_first document_cmp x ds d rising top.0) (subst (λ z. document_cmp d z ≡ Less) (sym same) less)
    | inr later ↦ top.1 e later less
  ],
)

-- the last of a sorted list is the greatest
top_last : (x : Bundle) (ds : List Bundle) → IsStrictlySortedBy document_cmp (x ∷ ds) → IsTop (x ∷ ds) (last_or (Some x) ds)
top_last x [] rising = (
  contains_first x [],
  λ e has less. elim (contains_cases x [] e has) [
    | inl same ↦ not_below_itself document_total x (subst (λ z. document_cmp x z ≡ Less) (sym same) less)
    | inr none ↦ contains_none e none
  ],
)
top_last x (y ∷ ds) rising = top_more x (y ∷ ds) (last_or (Some y) ds) rising (top_last y ds (rising_rest document_cmp x (y ∷ ds) rising))

-- the greatest of a domain's accepted documents is the current one
current_of_top : (m : Meaning) (domain : List ℕ) (ds : List Bundle) (o : Option Bundle) → IsAcceptedList m domain ds → IsTop ds o → IsCurrent m domain o
current_of_top m domain ds None list top = absurd top
current_of_top m domain ds (Some d) list top = record { accepted = list.sound d top.0; greatest = λ e is. top.1 e (list.complete e is) }

-- the last accepted document is the current one, and if none is accepted, no document is
pub last_current : (m : Meaning) (domain : List ℕ) (ds : List Bundle) → IsAcceptedList m domain ds → IsCurrent m domain (last_or None ds)
last_current m domain [] list = λ d is. contains_none d (list.complete d is)
last_current m domain (x ∷ ds) list = current_of_top m domain (x ∷ ds) (last_or (Some x) ds) list (top_last x ds list.rising)

-- the item behind all others is the last
behind_others : {A : Type 0} (x : A) (xs : List A) → slice_get (x ∷ xs) (length xs) ≡ last_or (Some x) xs
behind_others x [] = refl
behind_others x (y ∷ ys) = behind_others y ys

-- the item at the last place is the last
pub at_last_place : {A : Type 0} (xs : List A) → slice_get xs (length xs - 1) ≡ last_or None xs
at_last_place [] = refl
at_last_place (x ∷ xs) = let place : length (x ∷ xs) - 1 ≡ length xs = omega arith in ap (slice_get (x ∷ xs)) place ∙ behind_others x xs

-- a domain has one current document at most
pub one_current : (m : Meaning) (domain : List ℕ) (ds : List Bundle) (a b : Option Bundle) → IsAcceptedList m domain ds
    → IsCurrent m domain a → IsCurrent m domain b → a ≡ b
one_current m domain ds None None list p q = refl
one_current m domain ds None (Some e) list p q = absurd (p e q.accepted)
one_current m domain ds (Some d) None list p q = absurd (q d p.accepted)
one_current m domain ds (Some d) (Some e) list p q =
    ap Some (only_one document_cmp ds d e list.rising (list.complete d p.accepted) (list.complete e q.accepted)
    (p.greatest e q.accepted) (q.greatest d p.accepted))

-- replicas that hold alike have one current document
pub current_alike : (m n : Meaning) → AreAlike m n → (domain : List ℕ) (o : Option Bundle) → IsCurrent m domain o → IsCurrent n domain o
current_alike m n alike domain None is = λ d h. is d (member_alike n m (alike_turned m n alike) (document_of domain d) h)
current_alike m n alike domain (Some d) is = record {
  accepted = member_alike m n alike (document_of domain d) is.accepted;
  greatest = λ e h. is.greatest e (member_alike n m (alike_turned m n alike) (document_of domain e) h);
}

-- if all that was accepted is accepted, the current document is not lower than it was
pub no_lower : (old new : Meaning) (domain : List ℕ) (before after : Option Bundle)
    → ((p : Pair) → IsMember old p → IsMember new p) → IsCurrent old domain before → IsCurrent new domain after
    → IsNoLower before after
no_lower old new domain None after more was is = tt
no_lower old new domain (Some d) None more was is = is d (more (document_of domain d) was.accepted)
no_lower old new domain (Some d) (Some e) more was is = is.greatest d (more (document_of domain d) was.accepted)
