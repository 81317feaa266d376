-- What a bundle document says (SPIFFE Trust Domain and Bundle, section 4), and its one canonical
-- text.
use Rattle.std.specs.Prelude.{◌≡◌, ℕ, ◌^◌, ◌<◌, ◌≤◌, ◌↔◌, ◌⊎◌, ◌++◌, List, [], ◌∷◌, length, map}
use Rattle.std.specs.Prelude.{Any, codes, Option, Some, None, IfSome, Bool}
use Rattle.std.specs.Str.{bytes_eq}
use Rattle.std.specs.declared.cmp.Ordering.{Ordering}
use Rattle.std.specs.Ordering.{nat_cmp}
use Rattle.std.specs.Cmp.Lexicographic.{slice_cmp}
use Rattle.std.specs.List.{AllByRecursion}
use Rattle.std.specs.List.Sorted.{IsStrictlySortedBy}
use Rattle.serde_json.specs.Data.{Data, null, number, unsigned, array, object, Items, no_items}
use Rattle.serde_json.specs.Data.{item, Members, no_members, member}
use Rattle.serde_json.specs.Find.{get}
use Rattle.serde_json.specs.View.{items_of}
use Rattle.serde_json.specs.Written.{compact_text}
use Rattle.sha2.specs.Sha256.{sha256}
use Rattle.jwk_set.specs.Json.{IsJson}
use Rattle.jwk_set.specs.Element.{IsElement, IsAuthority, tree_of, key_id_of}
use Rattle.jwk_set.specs.declared.authority.KeyId.{KeyId}
use Rattle.jwk_set.specs.declared.authority.Authority.{Authority}

-- A document's meaning: a set of authorities, a rank (its sequence number) and a refresh hint in
-- seconds. The set is kept as the list of its members, strictly sorted by their texts.
pub record Bundle : Type 0 where
  pub authorities : List Authority
  pub rank : Option ℕ
  pub hint : Option ℕ

-- the authority is a member
abbrev pub Has : List Authority → Authority → Type 0
Has [] a = ⊥
Has (b ∷ others) a = (a ≡ b) ⊎ Has others a

-- the compact text of an authority's element, and the order by these texts' bytes
abbrev pub authority_text : Authority → List ℕ
authority_text a = compact_text (tree_of a)

abbrev pub text_cmp : Authority → Authority → Ordering
text_cmp a b = slice_cmp nat_cmp (authority_text a) (authority_text b)

-- a bundle that a document can mean
pub record IsBundle (b : Bundle) : Type 0 where
  pub rising : IsStrictlySortedBy text_cmp b.authorities
  pub forms : AllByRecursion IsAuthority b.authorities
  pub rank : IfSome b.rank (λ n. n < 2 ^ 64)
  pub hint : IfSome b.hint (λ n. n < 2 ^ 64)

-- some element of the array says the authority
abbrev pub Says : Items → Authority → Type 0
Says no_items a = ⊥
Says (item element others) a = IsElement element a ⊎ Says others a

-- the member is a whole number, or it is absent, as `null` is
abbrev pub HasNumberMember : Data → List ℕ → Option ℕ → Type 0
HasNumberMember tree name None = (get name tree ≡ None) ⊎ (get name tree ≡ Some null)
HasNumberMember tree name (Some n) = get name tree ≡ Some (number (unsigned n))

abbrev pub HasKeys : Data → Items → Type 0
HasKeys tree keys = get (codes "keys") tree ≡ Some (array keys)

-- The object means the bundle (RFC 7517, section 5; SPIFFE Trust Domain and Bundle, section 4.1):
-- its authorities are all that the elements of `keys` say, and no other. All members that are not
-- named here count for nothing.
pub record Means (tree : Data) (b : Bundle) : Type 0 where
  pub keys : Items
  pub has_keys : HasKeys tree keys
  pub authorities : (a : Authority) → Has b.authorities a ↔ Says keys a
  pub rank : HasNumberMember tree (codes "spiffe_sequence") b.rank
  pub hint : HasNumberMember tree (codes "spiffe_refresh_hint") b.hint
  pub is : IsBundle b

-- an X.509 authority has the key id
abbrev pub HasKeyId : List Authority → KeyId → Type 0
HasKeyId authorities key = Any (λ a. key_id_of a ≡ Some key) authorities

-- ---- the canonical text

abbrev pub trees : List Authority → Items
trees authorities = items_of (map tree_of authorities)

abbrev pub with_number : List ℕ → Option ℕ → Members → Members
with_number name None others = others
with_number name (Some n) others = member name (number (unsigned n)) others

-- the object that says just the bundle, its names and elements in order
abbrev pub document_tree : Bundle → Data
document_tree b = object
    (member (codes "keys") (array (trees b.authorities))
    (with_number (codes "spiffe_refresh_hint") b.hint
    (with_number (codes "spiffe_sequence") b.rank no_members)))

abbrev pub canonical_text : Bundle → List ℕ
canonical_text b = compact_text (document_tree b)

-- the SHA-256 of the domain's name, a line feed and the canonical text (FIPS 180-4)
abbrev pub doc_id_of : List ℕ → Bundle → List ℕ
doc_id_of domain b = sha256 (domain ++ 10 ∷ [] ++ canonical_text b)

-- the most bytes of a document, and of its canonical text: 1 MiB
abbrev pub document_limit : ℕ
document_limit = 1048576

-- the canonical text is within the limit
abbrev pub Fits : Bundle → Type 0
Fits b = length (canonical_text b) ≤ document_limit

-- the bytes are a document of this meaning
pub record IsDocument (bytes : List ℕ) (b : Bundle) : Type 0 where
  pub tree : Data
  pub json : IsJson bytes tree
  pub means : Means tree b
  pub short : length bytes ≤ document_limit
  pub fits : Fits b

-- a document in memory: a bundle and its canonical text
pub record IsStoredDocument (b : Bundle) (canonical : List ℕ) : Type 0 where
  pub is : IsBundle b
  pub text : canonical ≡ canonical_text b
  pub fits : Fits b

-- the canonical texts are the same
abbrev pub same_text : Bundle → Bundle → Bool
same_text b c = bytes_eq (canonical_text b) (canonical_text c)
