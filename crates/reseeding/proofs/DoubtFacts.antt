-- Items of a list, looked at one after another.
use Rattle.std.proofs.Common.{◌≡◌, ◌≢◌, ◌↔◌, ℕ, List, [], ◌∷◌, subst, sym, inl, inr}
use Rattle.std.specs.List.{Contains}
use Rattle.bundle_doc.specs.Bundle.{Bundle, HasKeyId, canonical_text}
use Rattle.receipt_core.specs.Acceptance.{Meaning}
use Rattle.jwk_set.specs.declared.authority.KeyId.{KeyId}
use Rattle.receipt_core.specs.declared.distrust.Distrust.{Distrust}
use Rattle.closure_core.specs.AcceptedList.{IsAcceptedList}
use Rattle.closure_core.proofs.ContainsFacts.{contains_cases, contains_later, contains_first, contains_none}
use Rattle.reseeding.specs.Reseeding.{HasRival, ListsDistrusted}

-- an item with the property
pub record HasSome {X : Type 0} (P : X → Type 0) (xs : List X) : Type 0 where
  pub item : X
  pub has : Contains xs item
  pub is : P item

-- If the first one does not have the property, some later one has it exactly if some one does.
pub passed_by : {X : Type 0} (P : X → Type 0) (all ahead rest : List X) (first : X) → ahead ≡ first ∷ rest → (P first → ⊥)
    → (HasSome P ahead ↔ HasSome P all) → HasSome P rest ↔ HasSome P all
passed_by P all ahead rest first e other same = (
  λ later. same.0 (record {
    item = later.item;
    has = subst (λ xs. Contains xs later.item) (sym e) (contains_later first rest later.item later.has);
    is = later.is;
  }),
  λ some. let one = same.1 some in
      elim (contains_cases first rest one.item (subst (λ xs. Contains xs one.item) e one.has)) [
        | inl here ↦ absurd (other (subst P (sym here) one.is))
        | inr later ↦ record { item = one.item; has = later; is = one.is }
      ],
)

-- If the first one has the property, some one has it.
pub found_here : {X : Type 0} (P : X → Type 0) (all ahead rest : List X) (first : X) → ahead ≡ first ∷ rest → P first
    → (HasSome P ahead ↔ HasSome P all) → HasSome P all
found_here P all ahead rest first e is same = same.0 (record {
  item = first;
  has = subst (λ xs. Contains xs first) (sym e) (contains_first first rest);
  is = is;
})

-- If none is left, none has it.
pub found_none : {X : Type 0} (P : X → Type 0) (all ahead : List X) → ahead ≡ [] → (HasSome P ahead ↔ HasSome P all) → HasSome P all → ⊥
found_none P all ahead e same some = let one = same.1 some in contains_none one.item (subst (λ xs. Contains xs one.item) e one.has)

-- the record of a key in a domain
abbrev pub record_of_key : List ℕ → KeyId → Distrust
record_of_key domain key = record { domain = domain; key = key }

-- a record of this domain whose key the document lists
abbrev pub IsListedRecord : List ℕ → Bundle → Distrust → Type 0
IsListedRecord domain d x = (x.domain ≡ domain) × HasKeyId d.authorities x.key

-- some record is one of this kind
pub listed : (m : Meaning) (domain : List ℕ) (d : Bundle) → HasSome (IsListedRecord domain d) m.records → ListsDistrusted m domain d
listed m domain d some = record { given = some.item; held = some.has; of_domain = some.is.0; lists = some.is.1 }

-- another document with the same sequence number, or with none as this one
abbrev pub IsOther : Bundle → Bundle → Type 0
IsOther d rival = (rival.rank ≡ d.rank) × (canonical_text rival ≢ canonical_text d)

-- some accepted document is one of this kind
pub rivals : (m : Meaning) (domain : List ℕ) (d : Bundle) (documents : List Bundle) → IsAcceptedList m domain documents
    → HasSome (IsOther d) documents → HasRival m domain d
rivals m domain d documents are some = record {
  rival = some.item;
  accepted = are.sound some.item some.has;
  same = some.is.0;
  other = some.is.1;
}

-- and the other way
pub rivals_back : (m : Meaning) (domain : List ℕ) (d : Bundle) (documents : List Bundle) → IsAcceptedList m domain documents
    → HasRival m domain d → HasSome (IsOther d) documents
rivals_back m domain d documents are has = record {
  item = has.rival;
  has = are.complete has.rival has.accepted;
  is = (has.same, has.other);
}
