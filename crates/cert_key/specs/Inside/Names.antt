-- Reading names, from left to right
use Rattle.std.specs.Prelude.{ℕ, zero, suc, ◌++◌, List, [], ◌∷◌, length, reverse, Option, Some}
use Rattle.std.specs.Prelude.{None, if◌then◌else◌}
use Rattle.cert_key.specs.Name.{is_empty, joined_texts, type_value_text}
use Rattle.cert_key.specs.Inside.Reading.{◌>>=◌, Found, element_at, field_at}

-- the contents of elements with this tag, one after another, after those that were read; `fuel`
-- is how many there can be
abbrev pub contents_from : ℕ → List (List ℕ) → (fuel : ℕ) → List ℕ → Option (List (List ℕ))
contents_from tag before fuel [] = Some before
contents_from tag before zero (b ∷ bytes) = None
contents_from tag before (suc fuel) (b ∷ bytes) =
    field_at tag (b ∷ bytes) >>= λ e. contents_from tag (before ++ e.content ∷ []) fuel e.after

unfoldable pub contents_at : ℕ → List ℕ → Option (List (List ℕ))
contents_at tag bytes = contents_from tag [] (length bytes) bytes

-- the text of what an attribute contains
unfoldable pub attribute_at : List ℕ → Option (List ℕ)
attribute_at bytes = do
  type ← field_at 6 bytes
  value ← element_at type.after
  if is_empty value.after
      then type_value_text type.content value.tag value.content value.whole else None

abbrev pub attributes_text : List (List ℕ) → Option (List ℕ)
attributes_text [] = None
attributes_text (c ∷ others) = joined_texts 43 attribute_at [] (c ∷ others)

unfoldable pub rdn_at : List ℕ → Option (List ℕ)
rdn_at bytes = contents_at 48 bytes >>= attributes_text

abbrev pub rdns_text : List (List ℕ) → Option (List ℕ)
rdns_text contents = joined_texts 44 rdn_at [] (reverse contents)

abbrev pub rdns_at : Found → Option (List ℕ)
rdns_at name =
    if is_empty name.after then (contents_at 49 name.content >>= rdns_text) else None

unfoldable pub name_at : List ℕ → Option (List ℕ)
name_at bytes = field_at 48 bytes >>= rdns_at
