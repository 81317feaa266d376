-- Vouching is one membership: what a receipt needs is among what a document offers.
use Rattle.std.proofs.Common.{◌≡◌, ℕ, zero, suc, ◌<◌, List, [], ◌∷◌, length, ◌⊎◌, inl, inr, ◌↔◌, Option, Some, None}
use Rattle.std.proofs.Common.{refl, sym, ap, ◌∙◌, subst, arith, map, fold, get_or}
use Rattle.std.specs.Prelude.{Contains}
use Rattle.std.specs.List.{AllByRecursion}
use Rattle.std.proofs.lemmas.Map.Lookups.{exact_bytes}
use Rattle.jwk_set.specs.Element.{key_id_of}
use Rattle.jwk_set.specs.declared.authority.Authority.{Authority}
use Rattle.jwk_set.specs.declared.authority.KeyId.{KeyId}
use Rattle.bundle_doc.specs.Bundle.{HasKeyId, doc_id_of}
use Rattle.receipt_core.specs.Receipt.{Receipt, Pair, key_cmp, with_key_id, key_ids, offer_of, offers_of, need_of}
use Rattle.receipt_core.specs.Acceptance.{Vouches, distrust_of}
use Rattle.receipt_core.specs.Sets.{Always}
use Rattle.receipt_core.specs.declared.distrust.Distrust.{Distrust}
use Rattle.receipt_core.specs.declared.triple.Triple.{Triple}
use Rattle.receipt_core.proofs.RisingFacts.{Has, Contains-from_has, Has-from_contains, with_item-has, with_item-keeps, with_item-new, IsExactOn, all_from_has}

-- ---- key ids

-- key ids that the order does not distinguish are equal
one_key : IsExactOn Always key_cmp
one_key a b p q e = let bytes : a.0 ≡ b.0 = exact_bytes a.0 b.0 e in λ i. record { 0 = bytes i }

-- `Always` holds of all key ids: lemmas on sets ask for a property
always : (keys : List KeyId) → AllByRecursion Always keys
always keys = all_from_has Always keys (λ a h. tt)

-- an X.509 authority has the key id, by recursion
abbrev HasKey : List Authority → KeyId → Type 0
HasKey [] k = ⊥
HasKey (a ∷ others) k = (key_id_of a ≡ Some k) ⊎ HasKey others k

-- an authority with the key id at an index is found by recursion
has_key_at : (authorities : List Authority) (k : KeyId) (n : ℕ) (a : Authority) → n < length authorities
    → get_or authorities n a ≡ a → key_id_of a ≡ Some k → HasKey authorities k
has_key_at [] k n a lt e h = absurd (omega arith)
has_key_at (x ∷ xs) k zero a lt e h = inl (ap key_id_of e ∙ h)
has_key_at (x ∷ xs) k (suc n) a lt e h = inr (has_key_at xs k n a (omega arith) e h)

-- an authority with the key id by recursion is at some index
HasKeyId-from_recursion : (authorities : List Authority) (k : KeyId) → HasKey authorities k → HasKeyId authorities k
HasKeyId-from_recursion [] k h = absurd h
HasKeyId-from_recursion (x ∷ xs) k h =
    elim h [
      | inl e ↦ (0, x, omega arith, refl, e)
      | inr later ↦ let rest = HasKeyId-from_recursion xs k later in
          (suc rest.0, rest.1, omega arith, rest.3, rest.4)
    ]

-- the key ids with that of one more authority: the step of `key_ids`
abbrev more : List KeyId → Authority → List KeyId
more keys authority = with_key_id (key_id_of authority) keys

-- a key id is the authority's or was there
with_key_id-has : (o : Option KeyId) (keys : List KeyId) (k : KeyId) → Has (with_key_id o keys) k → (o ≡ Some k) ⊎ Has keys k
with_key_id-has None keys k h = inr h
with_key_id-has (Some key) keys k h = elim (with_item-has key_cmp key keys k h) [ inl e ↦ inl (ap Some e) | inr later ↦ inr later ]

-- what was there remains
with_key_id-keeps : (o : Option KeyId) (keys : List KeyId) (k : KeyId) → Has keys k → Has (with_key_id o keys) k
with_key_id-keeps None keys k h = h
with_key_id-keeps (Some key) keys k h = with_item-keeps key_cmp key keys k h

-- the authority's key id is there
with_key_id-new : (o : Option KeyId) (keys : List KeyId) (k : KeyId) → o ≡ Some k → Has (with_key_id o keys) k
with_key_id-new o keys k e = subst (λ x. Has (with_key_id x keys) k) (sym e) (with_item-new Always key_cmp one_key k keys tt (always keys))

-- the key ids after all steps are those of the authorities, or were there
fold_has : (authorities : List Authority) (keys : List KeyId) (k : KeyId) → Has (fold more keys authorities) k → HasKey authorities k ⊎ Has keys k
fold_has [] keys k h = inr h
fold_has (a ∷ others) keys k h =
    elim (fold_has others (more keys a) k h) [
      | inl later ↦ inl (inr later)
      | inr k' ↦ elim (with_key_id-has (key_id_of a) keys k k') [ inl e ↦ inl (inl e) | inr old ↦ inr old ]
    ]

-- what was there remains through all steps
fold_keeps : (authorities : List Authority) (keys : List KeyId) (k : KeyId) → Has keys k → Has (fold more keys authorities) k
fold_keeps [] keys k h = h
fold_keeps (a ∷ others) keys k h = fold_keeps others (more keys a) k (with_key_id-keeps (key_id_of a) keys k h)

-- the key id of each authority is there after all steps
fold_new : (authorities : List Authority) (keys : List KeyId) (k : KeyId) → HasKey authorities k → Has (fold more keys authorities) k
fold_new [] keys k h = absurd h
fold_new (a ∷ others) keys k h =
    elim h [ inl e ↦ fold_keeps others (more keys a) k (with_key_id-new (key_id_of a) keys k e) | inr later ↦ fold_new others (more keys a) k later ]

-- the key ids are those of the X.509 authorities
pub key_ids-members : (authorities : List Authority) (k : KeyId) → Has (key_ids authorities) k ↔ HasKeyId authorities k
key_ids-members authorities k = (
  λ h. elim (fold_has authorities [] k h) [ inl is ↦ HasKeyId-from_recursion authorities k is | inr old ↦ absurd old ],
  λ h. fold_new authorities [] k (has_key_at authorities k h.0 h.1 h.2 h.3 h.4),
)

-- ---- offers

-- each offer is that of a key id
map_has : (p : Pair) (keys : List KeyId) (t : Triple) → Has (map (offer_of p) keys) t → (k : KeyId) × Has keys k × (offer_of p k ≡ t)
map_has p [] t h = absurd h
map_has p (x ∷ keys) t h = elim h [ inl e ↦ (x, inl refl, e) | inr later ↦ let rest = map_has p keys t later in (rest.0, inr rest.1, rest.2) ]

-- each key id has its offer
has_map : (p : Pair) (keys : List KeyId) (k : KeyId) → Has keys k → Has (map (offer_of p) keys) (offer_of p k)
has_map p [] k h = absurd h
has_map p (x ∷ keys) k h = elim h [ inl e ↦ inl (ap (offer_of p) e) | inr later ↦ inr (has_map p keys k later) ]

-- an offer that equals the need agrees with the receipt in domain, document and key
needed : (p : Pair) (r : Receipt) (k : KeyId) → offer_of p k ≡ need_of r
    → (p.domain ≡ r.endpoint.domain) × (doc_id_of p.domain p.document ≡ r.voucher.0) × (k ≡ r.key)
needed p r k e = (ap (λ (t : Triple). t.domain) e, ap (λ (t : Triple). t.document.0) e, ap (λ (t : Triple). t.key) e)

-- a document vouches for a receipt exactly if it offers what the receipt needs, and the key is not distrusted
pub Vouches-by_offers : (records : List Distrust) (p : Pair) (r : Receipt)
    → Vouches records p r ↔ (Contains (offers_of p) (need_of r) × (Contains records (distrust_of r.endpoint.domain r) → ⊥))
Vouches-by_offers records p r = (
  λ v. (
    Contains-from_has (offers_of p) (need_of r)
        (subst (Has (offers_of p)) (λ i. record { domain = v.endpoint i; document = record { 0 = v.voucher i }; key = r.key })
        (has_map p (key_ids p.document.authorities) r.key ((key_ids-members p.document.authorities r.key).1 v.key))),
    λ h. v.trusted (subst (λ d. Contains records (distrust_of d r)) (sym v.endpoint) h),
  ),
  λ h.
      let found = map_has p (key_ids p.document.authorities) (need_of r) (Has-from_contains (offers_of p) (need_of r) h.0) in
      let parts = needed p r found.0 found.2 in
      record {
        endpoint = parts.0;
        voucher = parts.1;
        key = (key_ids-members p.document.authorities r.key).0 (subst (Has (key_ids p.document.authorities)) parts.2 found.1);
        trusted = λ k. h.1 (subst (λ d. Contains records (distrust_of d r)) parts.0 k);
      },
)
