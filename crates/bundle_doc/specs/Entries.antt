-- The authorities of a document under their texts, while it is read.
use Rattle.std.specs.Prelude.{◌≡◌, ℕ, ◌++◌, ◌↔◌, ◌⊎◌, List, [], false, map, Option, Some, None}
use Rattle.std.specs.Prelude.{IfSome, ◌<◌, ◌≤◌, ◌^◌, String, length, string_bytes, codes, decimal}
use Rattle.std.specs.declared.alloc.Global.{Global}
use Rattle.std.specs.List.{AllByRecursion}
use Rattle.serde_json.specs.Data.{Data, Items, Members, number, unsigned, put}
use Rattle.serde_json.specs.Written.{items_text}
use Rattle.jwk_set.specs.Json.{IsJson}
use Rattle.jwk_set.specs.Element.{IsElement, IsAuthority}
use Rattle.jwk_set.specs.declared.authority.Authority.{Authority}
use Rattle.bundle_doc.specs.Bundle.{Bundle, Has, HasKeys, HasNumberMember, Says, IsBundle}
use Rattle.bundle_doc.specs.Bundle.{authority_text, document_limit, trees}

abbrev pub Entry : Type 0
Entry = String Global × Authority

-- an authority under its text
abbrev pub IsAuthorityEntry : Entry → Type 0
IsAuthorityEntry e = (string_bytes e.0 ≡ authority_text e.1) × IsAuthority e.1

abbrev pub AreEntries : List Entry → Type 0
AreEntries = AllByRecursion IsAuthorityEntry

abbrev pub authorities_of : List Entry → List Authority
authorities_of es = map (λ e. e.1) es

-- what the element says was added, and nothing else
pub record AddsElement (old new : List Entry) (element : Data) : Type 0 where
  pub entries : AreEntries old → AreEntries new
  pub authorities : AreEntries old → (a : Authority)
      → Has (authorities_of new) a ↔ (IsElement element a ⊎ Has (authorities_of old) a)

-- the entries are those that the elements say
pub record IsGathered (elements : Items) (es : List Entry) : Type 0 where
  pub entries : AreEntries es
  pub authorities : (a : Authority) → Has (authorities_of es) a ↔ Says elements a

-- a number, if there is one, has 64 bits
abbrev pub FitsWord : Option ℕ → Type 0
FitsWord o = IfSome o (λ n. n < 2 ^ 64)

-- the value is an object with elements and these two numbers
pub record HasNumbers (tree : Data) (rank hint : Option ℕ) : Type 0 where
  pub keys : Items
  pub has_keys : HasKeys tree keys
  pub has_rank : HasNumberMember tree (codes "spiffe_sequence") rank
  pub has_hint : HasNumberMember tree (codes "spiffe_refresh_hint") hint
  pub rank_fits : FitsWord rank
  pub hint_fits : FitsWord hint

-- what the value says of a document
pub record IsContents (tree : Data) (es : List Entry) (rank hint : Option ℕ) : Type 0 where
  pub keys : Items
  pub has_keys : HasKeys tree keys
  pub gathered : IsGathered keys es
  pub numbers : HasNumbers tree rank hint

-- what the bytes say of a document
pub record IsContentsOfText (bytes : List ℕ) (es : List Entry) (rank hint : Option ℕ) : Type 0 where
  pub short : length bytes ≤ document_limit
  pub tree : Data
  pub json : IsJson bytes tree
  pub contents : IsContents tree es rank hint

-- the bundle has these authorities and these numbers
pub record IsBundleOf (es : List Entry) (rank hint : Option ℕ) (b : Bundle) : Type 0 where
  pub authorities : b.authorities ≡ authorities_of es
  pub same_rank : b.rank ≡ rank
  pub same_hint : b.hint ≡ hint
  pub is : IsBundle b

-- the canonical text up to the end of `keys`
abbrev pub keys_text : List Authority → List ℕ
keys_text authorities = codes "{\"keys\":[" ++ items_text false (trees authorities)

-- a number after its label, if there is one
abbrev pub number_part : List ℕ → Option ℕ → List ℕ
number_part label None = []
number_part label (Some n) = label ++ decimal n

-- the canonical text after `keys`
abbrev pub numbers_text : Option ℕ → Option ℕ → List ℕ
numbers_text hint rank = number_part (codes ",\"spiffe_refresh_hint\":") hint
    ++ (number_part (codes ",\"spiffe_sequence\":") rank ++ codes "}")

-- the member is put in if there is a number
abbrev pub put_some : List ℕ → Option ℕ → Members → Members
put_some name None others = others
put_some name (Some n) others = put name (number (unsigned n)) others
