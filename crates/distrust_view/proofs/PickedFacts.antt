-- Lines of those items of a list that have a property, one after another.
use Rattle.std.proofs.Common.{◌≡◌, ◌⊎◌, inl, inr, ℕ, List, [], ◌∷◌, ◌++◌, flat_map, refl, sym, ap, ◌∙◌, subst, Less, append_assoc, append-nil}
use Rattle.std.specs.declared.cmp.Ordering.{Ordering}
use Rattle.std.specs.List.{Contains}
use Rattle.std.specs.List.Sorted.{IsStrictlySortedBy}
use Rattle.bundle_doc.specs.Bundle.{Bundle}
use Rattle.receipt_core.specs.Acceptance.{Meaning, IsMember}
use Rattle.closure_core.specs.AcceptedList.{IsAcceptedList, document_cmp, document_of}
use Rattle.closure_core.proofs.ContainsFacts.{contains_cases, contains_first, contains_later, contains_none}
use Rattle.closure_core.proofs.RisingFacts.{each_from, each_has}
use Rattle.distrust_view.specs.DistrustEffect.{AreFallen}

-- those of the list that have the property, in their order
abbrev pub ArePicked : {A : Type 0} → (A → Type 0) → List A → List A → Type 0
ArePicked P [] picked = picked ≡ []
ArePicked P (x ∷ items) picked =
    (P x × ((others : _) × ((picked ≡ x ∷ others) × ArePicked P items others))) ⊎ ((P x → ⊥) × ArePicked P items picked)

-- the lines of the items that have the property were added
pub record AddsPicked {A : Type 0} (P : A → Type 0) (line : A → List ℕ) (items : List A) (old new : List ℕ) : Type 0 where
  pub picked : List A
  pub are : ArePicked P items picked
  pub now : new ≡ old ++ flat_map line picked

-- With the lines of the rest of the items, those of all will have been added.
abbrev pub PicksSoFar : {A : Type 0} → (A → Type 0) → (A → List ℕ) → List A → List A → List ℕ → List ℕ → Type 0
PicksSoFar P line all rest old new = (more : _) → ArePicked P rest more → AddsPicked P line all old (new ++ flat_map line more)

-- The line of an item that has the property was added.
pub picks_one : {A : Type 0} (P : A → Type 0) (line : A → List ℕ) (all ahead rest : List A) (first : A) (old now next : List ℕ)
    → ahead ≡ first ∷ rest → P first → next ≡ now ++ line first → PicksSoFar P line all ahead old now → PicksSoFar P line all rest old next
picks_one P line all ahead rest first old now next e has added so_far more are =
    let here : ArePicked P ahead (first ∷ more) = subst (λ z. ArePicked P z (first ∷ more)) (sym e) (inl (has, (more, (refl, are)))) in
    let same : now ++ (line first ++ flat_map line more) ≡ next ++ flat_map line more =
    sym (append_assoc now (line first) (flat_map line more)) ∙ ap (λ z. z ++ flat_map line more) (sym added) in
    subst (AddsPicked P line all old) same (so_far (first ∷ more) here)

-- An item that does not have it adds none.
pub picks_not : {A : Type 0} (P : A → Type 0) (line : A → List ℕ) (all ahead rest : List A) (first : A) (old now : List ℕ)
    → ahead ≡ first ∷ rest → (P first → ⊥) → PicksSoFar P line all ahead old now → PicksSoFar P line all rest old now
picks_not P line all ahead rest first old now e lacks so_far more are = so_far more (subst (λ z. ArePicked P z more) (sym e) (inr (lacks, are)))

-- At the end these are all.
pub picks_end : {A : Type 0} (P : A → Type 0) (line : A → List ℕ) (all ahead : List A) (old now : List ℕ) → ahead ≡ []
    → PicksSoFar P line all ahead old now → AddsPicked P line all old now
picks_end P line all ahead old now e so_far =
    subst (AddsPicked P line all old) (append-nil now) (so_far [] (subst (λ z. ArePicked P z []) (sym e) refl))

-- ---- what is picked

-- What is picked has the property and is an item.
pub picked_sound : {A : Type 0} (P : A → Type 0) (items picked : List A) (x : A) → ArePicked P items picked → Contains picked x
    → Contains items x × P x
picked_sound P [] picked x none has = absurd (contains_none x (subst (λ z. Contains z x) none has))
picked_sound P (y ∷ items) picked x (inl (is, (others, (e, are)))) has =
    elim (contains_cases y others x (subst (λ z. Contains z x) e has)) [
      | inl here ↦ (subst (Contains (y ∷ items)) here (contains_first y items), subst P here is)
      | inr there ↦ let rest = picked_sound P items others x are there in (contains_later y items x rest.0, rest.1)
    ]
picked_sound P (y ∷ items) picked x (inr (lacks, are)) has =
    let rest = picked_sound P items picked x are has in (contains_later y items x rest.0, rest.1)

-- Each item that has the property is picked.
pub picked_complete : {A : Type 0} (P : A → Type 0) (items picked : List A) (x : A) → ArePicked P items picked → Contains items x → P x
    → Contains picked x
picked_complete P [] picked x none has is = absurd (contains_none x has)
picked_complete P (y ∷ items) picked x (inl (py, (others, (e, are)))) has is = subst (λ z. Contains z x) (sym e) (elim (contains_cases y items x has) [
  | inl here ↦ subst (Contains (y ∷ others)) here (contains_first y others)
  | inr there ↦ contains_later y others x (picked_complete P items others x are there is)
])
picked_complete P (y ∷ items) picked x (inr (lacks, are)) has is = elim (contains_cases y items x has) [
  | inl here ↦ absurd (lacks (subst P (sym here) is))
  | inr there ↦ picked_complete P items picked x are there is
]

-- What is picked of a sorted list is sorted.
pub picked_rising : {A : Type 0} (R : A → A → Ordering) (P : A → Type 0) (items picked : List A) → ArePicked P items picked
    → IsStrictlySortedBy R items → IsStrictlySortedBy R picked
unfolding IsStrictlySortedBy
picked_rising R P [] picked none rising = subst (IsStrictlySortedBy R) (sym none) tt
picked_rising R P (y ∷ items) picked (inl (is, (others, (e, are)))) rising =
    subst (IsStrictlySortedBy R) (sym e) (
      each_from (λ z. R y z ≡ Less) others (λ z has. each_has (λ w. R y w ≡ Less) items z rising.0 (picked_sound P items others z are has).0),
      picked_rising R P items others are rising.1,
    )
picked_rising R P (y ∷ items) picked (inr (lacks, are)) rising = picked_rising R P items picked are rising.1

-- ---- the documents that fall

-- the document is not accepted
abbrev pub IsUnaccepted : Meaning → List ℕ → Bundle → Type 0
IsUnaccepted m domain d = IsMember m (document_of domain d) → ⊥

-- The accepted documents that are not accepted later are those that fall.
pub fallen_of : (old new : Meaning) (domain : List ℕ) (documents picked : List Bundle) → IsAcceptedList old domain documents
    → ArePicked (IsUnaccepted new domain) documents picked → AreFallen old new domain picked
fallen_of old new domain documents picked accepted are = record {
  rising = picked_rising document_cmp (IsUnaccepted new domain) documents picked are accepted.rising;
  exactly = λ d. (
    λ has. let one = picked_sound (IsUnaccepted new domain) documents picked d are has in (accepted.sound d one.0, one.1),
    λ both. picked_complete (IsUnaccepted new domain) documents picked d are (accepted.complete d both.0) both.1,
  );
}
