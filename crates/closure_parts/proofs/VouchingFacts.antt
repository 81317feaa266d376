-- Vouching is offering what is needed
use Rattle.std.proofs.Common.{◌≡◌, ℕ, suc, ◌⊎◌, inl, inr, List, [], ◌∷◌, Option, Some, None, arith, refl, sym, ap, ◌∙◌, subst}
use Rattle.std.specs.Prelude.{Contains, Any, fold}
use Rattle.std.specs.declared.cmp.Ordering.{Ordering}
use Rattle.std.specs.declared.cmp.Ordering.TheVariants.{Less, Equal, Greater}
use Rattle.std.proofs.lemmas.Map.Lookups.{exact_bytes}
use Rattle.std.proofs.lemmas.Option.{same_Some, none-some}
use Rattle.jwk_set.specs.Element.{key_id_of}
use Rattle.jwk_set.specs.declared.authority.Authority.{Authority}
use Rattle.jwk_set.specs.declared.authority.KeyId.{KeyId}
use Rattle.bundle_doc.specs.Bundle.{HasKeyId, doc_id_of}
use Rattle.receipt_core.specs.declared.distrust.Distrust.{Distrust}
use Rattle.receipt_core.specs.declared.triple.Triple.{Triple}
use Rattle.receipt_core.specs.Rising.{placed, with_item}
use Rattle.receipt_core.specs.Receipt.{Receipt, Pair, key_cmp, with_key_id, key_ids, offer_of, offers_of, need_of}
use Rattle.receipt_core.specs.Acceptance.{Vouches}
use Rattle.closure_parts.specs.Held.{IsShutBy}
use Rattle.closure_parts.proofs.PlaceFacts.{Contains-from_map}
use Rattle.closure_core.proofs.ContainsFacts.{contains_first, contains_later, contains_cases, contains_map}

-- ---- a set with one more item

module _ {A : Type 0} (cmp : A → A → Ordering) (item : A) where
  -- One step of `with_item-cases`, for each way the item compares with the first.
  placed-cases : (o : Ordering) (head : A) (rest longer : List A) (x : A) → Contains (placed o item head rest longer) x
      → ((y : A) → Contains longer y → (y ≡ item) ⊎ Contains rest y) → (x ≡ item) ⊎ Contains (head ∷ rest) x
  placed-cases Less head rest longer x c more = elim (contains_cases item (head ∷ rest) x c) [ inl e ↦ inl (sym e) | inr d ↦ inr d ]
  placed-cases Equal head rest longer x c more = inr c
  placed-cases Greater head rest longer x c more =
      elim (contains_cases head longer x c) [
        | inl e ↦ inr (subst (Contains (head ∷ rest)) e (contains_first head rest))
        | inr d ↦ elim (more x d) [ inl e ↦ inl e | inr b ↦ inr (contains_later head rest x b) ]
      ]

  -- Adding an item adds nothing else.
  pub with_item-cases : (set : List A) (x : A) → Contains (with_item cmp item set) x → (x ≡ item) ⊎ Contains set x
  with_item-cases [] x c = elim (contains_cases item [] x c) [ inl e ↦ inl (sym e) | inr d ↦ inr d ]
  with_item-cases (head ∷ rest) x c = placed-cases (cmp item head) head rest (with_item cmp item rest) x c (with_item-cases rest)

  -- One step of `with_item-old`, for each way the item compares with the first.
  placed-old : (o : Ordering) (head : A) (rest longer : List A) (x : A)
      → ((y : A) → Contains rest y → Contains longer y) → Contains (head ∷ rest) x
      → Contains (placed o item head rest longer) x
  placed-old Less head rest longer x more c = contains_later item (head ∷ rest) x c
  placed-old Equal head rest longer x more c = c
  placed-old Greater head rest longer x more c =
      elim (contains_cases head rest x c) [
        | inl e ↦ subst (Contains (head ∷ longer)) e (contains_first head longer)
        | inr d ↦ contains_later head longer x (more x d)
      ]

  -- Adding an item loses none.
  pub with_item-old : (set : List A) (x : A) → Contains set x → Contains (with_item cmp item set) x
  with_item-old [] x c = absurd (omega (arith, c.1))
  with_item-old (head ∷ rest) x c = placed-old (cmp item head) head rest (with_item cmp item rest) x (with_item-old rest) c

  -- One step of `with_item-new`, for each way the item compares with the first.
  placed-new : (o : Ordering) (head : A) (rest longer : List A) → (o ≡ Equal → item ≡ head) → Contains longer item
      → Contains (placed o item head rest longer) item
  placed-new Less head rest longer exact c = contains_first item (head ∷ rest)
  placed-new Equal head rest longer exact c = subst (Contains (head ∷ rest)) (sym (exact refl)) (contains_first head rest)
  placed-new Greater head rest longer exact c = contains_later head longer item c

  -- The added item is there if the order distinguishes what differs.
  pub with_item-new : ((other : A) → cmp item other ≡ Equal → item ≡ other) → (set : List A) → Contains (with_item cmp item set) item
  with_item-new exact [] = contains_first item []
  with_item-new exact (head ∷ rest) = placed-new (cmp item head) head rest (with_item cmp item rest) (exact head) (with_item-new exact rest)

-- ---- key ids

-- Key ids that tie are equal.
pub key-exact : (a b : KeyId) → key_cmp a b ≡ Equal → a ≡ b
key-exact a b e = ap (λ (bytes : List ℕ). let key : KeyId = record { 0 = bytes } in key) (exact_bytes a.0 b.0 e)

-- A key id of the longer list is the authority's or was there.
with_key_id-cases : (o : Option KeyId) (keys : List KeyId) (key : KeyId) → Contains (with_key_id o keys) key → (o ≡ Some key) ⊎ Contains keys key
with_key_id-cases None keys key c = inr c
with_key_id-cases (Some k) keys key c = elim (with_item-cases key_cmp k keys key c) [ inl e ↦ inl (ap (λ (x : KeyId). Some x) (sym e)) | inr d ↦ inr d ]

-- A key id that was there still is.
with_key_id-old : (o : Option KeyId) (keys : List KeyId) (key : KeyId) → Contains keys key → Contains (with_key_id o keys) key
with_key_id-old None keys key c = c
with_key_id-old (Some k) keys key c = with_item-old key_cmp k keys key c

-- An authority's key id is there.
with_key_id-new : (o : Option KeyId) (keys : List KeyId) (key : KeyId) → o ≡ Some key → Contains (with_key_id o keys) key
with_key_id-new None keys key e = absurd (none-some key e)
with_key_id-new (Some k) keys key e =
    subst (Contains (with_item key_cmp k keys)) (same_Some k key e) (with_item-new key_cmp k (key-exact k) keys)

-- the key ids of authorities, with those that were there
abbrev keys_with : List KeyId → List Authority → List KeyId
keys_with keys authorities = fold (λ keys authority. with_key_id (key_id_of authority) keys) keys authorities

-- What holds of the first item holds of some item.
Any-head : {X : Type 0} (P : X → Type 0) (x : X) (xs : List X) → P x → Any P (x ∷ xs)
Any-head P x xs p = (0, x, omega arith, refl, p)

-- What holds of some later item holds of some item.
Any-later : {X : Type 0} (P : X → Type 0) (x : X) (xs : List X) → Any P xs → Any P (x ∷ xs)
Any-later P x xs a = (suc a.0, a.1, omega (arith, a.2), a.3, a.4)

-- What holds of some item holds of the first or of a later one.
Any-cons_cases : {X : Type 0} (P : X → Type 0) (x : X) (xs : List X) → Any P (x ∷ xs) → P x ⊎ Any P xs
Any-cons_cases {X = X} P x xs a =
    elim (contains_cases x xs a.1 (a.0, a.2, a.3)) [
      | inl e ↦ inl (subst P (sym e) a.4)
      | inr c ↦ inr (c.0, a.1, c.1, c.2, a.4)
    ]

-- A gathered key id was there or is that of an authority.
keys-cases : (authorities : List Authority) (keys : List KeyId) (key : KeyId)
    → Contains (keys_with keys authorities) key → Contains keys key ⊎ HasKeyId authorities key
keys-cases [] keys key c = inl c
keys-cases (a ∷ as') keys key c =
    elim (keys-cases as' (with_key_id (key_id_of a) keys) key c) [
      | inl d ↦
          elim (with_key_id-cases (key_id_of a) keys key d) [
            | inl e ↦ inr (Any-head (λ (x : Authority). key_id_of x ≡ Some key) a as' e)
            | inr f ↦ inl f
          ]
      | inr d ↦ inr (Any-later (λ (x : Authority). key_id_of x ≡ Some key) a as' d)
    ]

-- A key id that was there is gathered.
keys-old : (authorities : List Authority) (keys : List KeyId) (key : KeyId) → Contains keys key → Contains (keys_with keys authorities) key
keys-old [] keys key c = c
keys-old (a ∷ as') keys key c = keys-old as' (with_key_id (key_id_of a) keys) key (with_key_id-old (key_id_of a) keys key c)

-- The key id of each authority is gathered.
keys-new : (authorities : List Authority) (keys : List KeyId) (key : KeyId) → HasKeyId authorities key → Contains (keys_with keys authorities) key
keys-new [] keys key h = absurd (omega (arith, h.2))
keys-new (a ∷ as') keys key h =
    elim (Any-cons_cases (λ (x : Authority). key_id_of x ≡ Some key) a as' h) [
      | inl e ↦ keys-old as' (with_key_id (key_id_of a) keys) key (with_key_id-new (key_id_of a) keys key e)
      | inr g ↦ keys-new as' (with_key_id (key_id_of a) keys) key g
    ]

-- A key id of the document's list is that of one of its authorities.
pub has_key-from_key_ids : (authorities : List Authority) (key : KeyId) → Contains (key_ids authorities) key → HasKeyId authorities key
has_key-from_key_ids authorities key c = elim (keys-cases authorities [] key c) [ inl d ↦ absurd (omega (arith, d.1)) | inr h ↦ h ]

-- The key id of each authority is in the document's list.
pub key_ids-from_has_key : (authorities : List Authority) (key : KeyId) → HasKeyId authorities key → Contains (key_ids authorities) key
key_ids-from_has_key authorities key h = keys-new authorities [] key h

-- ---- vouching

-- A document that offers what a receipt needs vouches for it, unless that is shut.
pub vouches-from_offer : (records : List Distrust) (p : Pair) (r : Receipt) → Contains (offers_of p) (need_of r)
    → (IsShutBy records (need_of r) → ⊥) → Vouches records p r
vouches-from_offer records p r c open' =
    let found = Contains-from_map (offer_of p) (key_ids p.document.authorities) (need_of r) c in
    let domain : p.domain ≡ r.endpoint.domain = ap (λ (t : Triple). t.domain) found.2 in
    record {
      endpoint = domain;
      voucher = ap (λ (t : Triple). t.document.0) found.2;
      key = subst (HasKeyId p.document.authorities) (ap (λ (t : Triple). t.key) found.2) (has_key-from_key_ids p.document.authorities found.0 found.1);
      trusted = λ x. open' (subst (λ (d : List ℕ). Contains records (record { domain = d; key = r.key })) domain x);
    }

-- A document that vouches for a receipt offers what it needs.
pub offer-from_vouches : (records : List Distrust) (p : Pair) (r : Receipt) → Vouches records p r → Contains (offers_of p) (need_of r)
offer-from_vouches records p r v =
    let has = contains_map (offer_of p) (key_ids p.document.authorities) r.key (key_ids-from_has_key p.document.authorities r.key v.key) in
    let same : offer_of p r.key ≡ need_of r =
    ap (λ (d : List ℕ). let t : Triple = record { domain = d; document = record { 0 = doc_id_of p.domain p.document }; key = r.key } in t) v.endpoint
    ∙ ap (λ (i : List ℕ). let t : Triple = record { domain = r.endpoint.domain; document = record { 0 = i }; key = r.key } in t) v.voucher
    in
    subst (Contains (offers_of p)) same has

-- If a document vouches for a receipt, what the receipt needs is not shut.
pub open-from_vouches : (records : List Distrust) (p : Pair) (r : Receipt) → Vouches records p r → IsShutBy records (need_of r) → ⊥
open-from_vouches records p r v x =
    v.trusted (subst (λ (d : List ℕ). Contains records (record { domain = d; key = r.key })) (sym v.endpoint) x)
