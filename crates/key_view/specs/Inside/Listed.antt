-- The accepted documents that list each key
use Rattle.std.specs.Prelude.{◌≡◌, ◌↔◌, ℕ, ◌<◌, ◌≤◌, cond, List, [], ◌∷◌, ◌++◌, nat_eq, IsTrue}
use Rattle.std.specs.Prelude.{Contains, Option, Some, None}
use Rattle.std.specs.List.{list_any}
use Rattle.std.specs.BTreeMap.{BTreeMap, get}
use Rattle.jwk_set.specs.declared.authority.Authority.{Authority}
use Rattle.jwk_set.specs.declared.authority.KeyId.{KeyId}
use Rattle.bundle_doc.specs.Bundle.{Bundle}
use Rattle.bundle_doc.specs.declared.document.DocId.{DocId}
use Rattle.receipt_core.specs.Receipt.{key_cmp}
use Rattle.receipt_core.specs.declared.distrust.Distrust.{Distrust}
use Rattle.key_view.specs.declared.known_entry.KeyEntry.{KeyEntry}
use Rattle.key_view.specs.declared.met_keys.KnownKey.{KnownKey}
use Rattle.key_view.specs.declared.listings.Listing.{Listing}
use Rattle.key_view.specs.KeyEntries.{IsKeyParts, bundle_ids, is_own_id, is_some_key}

abbrev pub ids_of : Option Listing → List DocId
ids_of None = []
ids_of (Some listing) = listing.ids.items

-- the number of the document that was the last, and 0 for none
abbrev pub last_listed : Option Listing → ℕ
last_listed None = 0
last_listed (Some listing) = listing.last

-- what is known of the key
abbrev pub listing_at : BTreeMap KeyId Listing → KeyId → Option Listing
listing_at listings key = get key_cmp listings key

-- the ids with this one, if this document was not the last
abbrev pub with_id : DocId → ℕ → Option Listing → List DocId
with_id id number listing = cond (nat_eq (last_listed listing) number) (ids_of listing)
    (ids_of listing ++ id ∷ [])

-- The document's id was added for the key, if there is one, unless this document was the last.
pub record AddsKey (id : DocId) (number : ℕ) (own : Option KeyId)
    (old new : BTreeMap KeyId Listing) : Type 0 where
  pub ids : (key : KeyId) → ids_of (listing_at new key)
      ≡ cond (is_some_key own key) (with_id id number (listing_at old key))
      (ids_of (listing_at old key))
  pub last : (key : KeyId) → last_listed (listing_at new key)
      ≡ cond (is_some_key own key) number (last_listed (listing_at old key))

-- No document with this number, or a higher one, was looked at.
pub record ListsBefore (number : ℕ) (listings : BTreeMap KeyId Listing) : Type 0 where
  pub low : (key : KeyId) → last_listed (listing_at listings key) < number

-- The document's id was added, once, for each key that one of the authorities has.
pub record AddsListed (id : DocId) (number : ℕ) (authorities : List Authority)
    (old new : BTreeMap KeyId Listing) : Type 0 where
  pub ids : (key : KeyId) → ids_of (listing_at new key) ≡ ids_of (listing_at old key)
      ++ cond (list_any (is_own_id key) authorities) (id ∷ []) []
  pub last : (key : KeyId) → nat_eq (last_listed (listing_at new key)) number
      ≡ list_any (is_own_id key) authorities
  pub low : (key : KeyId) → last_listed (listing_at new key) ≤ number

-- For each key these are the ids of the documents that list it.
pub record AreListings (domain : List ℕ) (accepted : List Bundle)
    (listings : BTreeMap KeyId Listing) : Type 0 where
  pub ids : (key : KeyId) → ids_of (listing_at listings key) ≡ bundle_ids domain key accepted

-- what is known of a key, by these listings
pub record IsListedEntry (domain : List ℕ) (records : List Distrust)
    (listings : BTreeMap KeyId Listing) (known : KnownKey) (e : KeyEntry) : Type 0 where
  pub key : e.key ≡ known.key
  pub parts : IsKeyParts known.der e.parts
  pub bundles : e.bundles.items ≡ ids_of (listing_at listings known.key)
  pub distrusted : IsTrue e.is_distrusted
      ↔ Contains records (record { domain = domain; key = known.key })
