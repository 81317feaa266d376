-- A configuration as it is written: a JSON value, and the texts and values in it.
use Rattle.std.specs.Prelude.{◌≡◌, ◌⊎◌, ℕ, suc, List, [], codes, Some}
use Rattle.std.specs.List.{AllZip}
use Rattle.serde_json.specs.Data.{Data, array, object, Members, no_members, member}
use Rattle.serde_json.specs.Find.{as_object, get}
use Rattle.serde_json.specs.View.{items_of}
use Rattle.jwk_set.specs.Json.{IsJson}
use Rattle.jwk_set.specs.Element.{HasText}
use Rattle.fed_config.specs.Configuration.{floor_members}
use Rattle.fed_config.specs.declared.floor.Floor.{Floor}

-- the texts of a relationship
pub record RelationshipText : Type 0 where
  pub domain : List ℕ
  pub endpoint : List ℕ
  pub profile : List ℕ
  pub url : List ℕ

-- the text of a seed's domain, and its document as a value
pub record SeedText : Type 0 where
  pub bundle : Data
  pub domain : List ℕ

-- a floor is written as the text of its domain, and its number
pub record Written : Type 0 where
  pub relationships : List RelationshipText
  pub seeds : List SeedText
  pub floors : List Floor

abbrev pub member_count : Members → ℕ
member_count no_members = 0
member_count (member name d others) = suc (member_count others)

-- The value is an object with this many members. If this many names are found in it, these are all.
abbrev pub HasCount : Data → ℕ → Type 0
HasCount tree count = (members : Members) × (as_object tree ≡ Some members)
    × (member_count members ≡ count)

-- an object with exactly these four members, all texts
pub record SaysRelationshipText (tree : Data) (t : RelationshipText) : Type 0 where
  pub count : HasCount tree 4
  pub domain : HasText tree (codes "domain") t.domain
  pub endpoint : HasText tree (codes "endpoint") t.endpoint
  pub profile : HasText tree (codes "profile") t.profile
  pub url : HasText tree (codes "url") t.url

-- an object with exactly these two members: any value, and a text
pub record SaysSeedText (tree : Data) (t : SeedText) : Type 0 where
  pub count : HasCount tree 2
  pub bundle : get (codes "bundle") tree ≡ Some t.bundle
  pub domain : HasText tree (codes "domain") t.domain

-- the member is an array, of these elements
abbrev pub HasArray : Data → List ℕ → List Data → Type 0
HasArray tree name elements = get name tree ≡ Some (array (items_of elements))

abbrev pub HasFloors : Data → List Floor → Type 0
HasFloors tree floors = get (codes "floors") tree ≡ Some (object (floor_members floors))

-- an object of two members, which has no floors, or one of three members, of which one is the
-- object of these floors: each name has a number
abbrev pub SaysFloors : Data → List Floor → Type 0
SaysFloors tree floors = (HasCount tree 2 × (floors ≡ []))
    ⊎ (HasCount tree 3 × HasFloors tree floors)

-- an object with exactly these two members, both arrays, whose elements say these relationships and
-- seeds, and with a third one for its floors, if it has any
pub record SaysWritten (tree : Data) (w : Written) : Type 0 where
  pub floors : SaysFloors tree w.floors
  pub relationships : List Data
  pub has_relationships : HasArray tree (codes "relationships") relationships
  pub each_relationship : AllZip SaysRelationshipText relationships w.relationships
  pub seeds : List Data
  pub has_seeds : HasArray tree (codes "seeds") seeds
  pub each_seed : AllZip SaysSeedText seeds w.seeds

-- the bytes are a JSON text of this shape
pub record IsText (bytes : List ℕ) (w : Written) : Type 0 where
  pub tree : Data
  pub json : IsJson bytes tree
  pub says : SaysWritten tree w
