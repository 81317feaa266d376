-- How many things have a property
use Rattle.std.specs.Prelude.{◌≡◌, ℕ, ◌↔◌, List, [], ◌∷◌, length, Contains}

-- no item comes twice
abbrev pub AreDifferent : {T : Type 0} → List T → Type 0
AreDifferent [] = Unit {0}
AreDifferent (item ∷ others) = (Contains others item → ⊥) × AreDifferent others

-- exactly n things have the property
pub record IsCount {T : Type 0} (P : T → Type 0) (n : ℕ) : Type 0 where
  pub items : List T
  pub different : AreDifferent items
  pub exactly : (x : T) → Contains items x ↔ P x
  pub count : length items ≡ n
