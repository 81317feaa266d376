-- An array of one item.
use Rattle.std.proofs.Common.{◌≡◌, List, [], ◌∷◌, refl}
use Rattle.serde_json.specs.Data.{Data, item, no_items}
use Rattle.serde_json.specs.View.{items_view}
use Rattle.serde_json.specs.declared.value.Value.{Value}

-- if a list is not of one item, its view is not an array of one item: why `only_text` finds no text
-- in it
pub not_alone : (vs : List Value) (d : Data) → ((v : Value) → vs ≡ v ∷ [] → ⊥) → items_view vs ≡ item d no_items → ⊥
not_alone [] d none e = cc
not_alone (v ∷ []) d none e = none v refl
not_alone (v ∷ w ∷ vs) d none e = cc
