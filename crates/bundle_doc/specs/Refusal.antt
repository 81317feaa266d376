-- When bytes or a JSON value are not a document, and which refusal comes first.
use Rattle.std.specs.Prelude.{◌≡◌, ℕ, ◌<◌, ◌≤◌, List, length, codes, Option, None, IsSome}
use Rattle.serde_json.specs.Data.{Data, Items}
use Rattle.serde_json.specs.Find.{as_object}
use Rattle.jwk_set.specs.Json.{IsJson}
use Rattle.bundle_doc.specs.Bundle.{Bundle, HasNumberMember, HasKeys, Means, canonical_text}
use Rattle.bundle_doc.specs.Bundle.{document_limit}
use Rattle.bundle_doc.specs.Entries.{Entry, IsBundleOf}
use Rattle.bundle_doc.specs.declared.error.DocError.{DocError}
use Rattle.bundle_doc.specs.declared.error.DocError.TheVariants.{TooLong, NotJson, NotObject}
use Rattle.bundle_doc.specs.declared.error.DocError.TheVariants.{NoKeys, BadSequence}
use Rattle.bundle_doc.specs.declared.error.DocError.TheVariants.{BadRefreshHint, CanonicalTooLong}
use Rattle.bundle_doc.specs.declared.error.DocError.TheVariants.{NoMemory}

abbrev pub HasSomeKeys : Data → Type 0
HasSomeKeys tree = (keys : Items) × HasKeys tree keys

abbrev pub HasSomeNumber : Data → List ℕ → Type 0
HasSomeNumber tree name = (n : Option ℕ) × HasNumberMember tree name n

-- Each refusal with its cause, and with what excludes the refusals before it. Memory is needed only
-- for the authorities and the canonical text, so only when the members are in their forms.
abbrev pub RefusesTree : Data → DocError → Type 0
RefusesTree tree TooLong = ⊥
RefusesTree tree NotJson = ⊥
RefusesTree tree NotObject = as_object tree ≡ None
RefusesTree tree NoKeys = IsSome (as_object tree) × (HasSomeKeys tree → ⊥)
RefusesTree tree BadSequence = HasSomeKeys tree × (HasSomeNumber tree (codes "spiffe_sequence") → ⊥)
RefusesTree tree BadRefreshHint = HasSomeKeys tree × HasSomeNumber tree (codes "spiffe_sequence")
    × (HasSomeNumber tree (codes "spiffe_refresh_hint") → ⊥)
RefusesTree tree CanonicalTooLong = (b : Bundle) × Means tree b
    × (document_limit < length (canonical_text b))
RefusesTree tree NoMemory = HasSomeKeys tree × HasSomeNumber tree (codes "spiffe_sequence")
    × HasSomeNumber tree (codes "spiffe_refresh_hint")

-- the bytes are within the limit, and their value is refused
pub record RefusesJson (bytes : List ℕ) (e : DocError) : Type 0 where
  pub short : length bytes ≤ document_limit
  pub tree : Data
  pub json : IsJson bytes tree
  pub cause : RefusesTree tree e

-- the same for bytes; memory is needed for the tree of all that are within the limit
abbrev pub RefusesBytes : List ℕ → DocError → Type 0
RefusesBytes bytes TooLong = document_limit < length bytes
RefusesBytes bytes NotJson = (length bytes ≤ document_limit)
    × ((tree : Data) → IsJson bytes tree → ⊥)
RefusesBytes bytes NoMemory = length bytes ≤ document_limit
RefusesBytes bytes e = RefusesJson bytes e

-- why a bundle of these authorities and numbers is not built
abbrev pub IsBuildFault : List Entry → Option ℕ → Option ℕ → DocError → Type 0
IsBuildFault es rank hint CanonicalTooLong = (b : Bundle) × IsBundleOf es rank hint b
    × (document_limit < length (canonical_text b))
IsBuildFault es rank hint NoMemory = Unit {0}
IsBuildFault es rank hint e = ⊥
