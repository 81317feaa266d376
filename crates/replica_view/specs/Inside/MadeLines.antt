-- Lines as far as they are made
use Rattle.std.specs.Prelude.{◌≡◌, ℕ, List, [], ◌∷◌, ◌++◌}
use Rattle.replica_view.specs.HeldTexts.{AreLinesFor}

-- a line was added that shows it
pub record PushesLine (shows : List ℕ → Type 0) (old new : List (List ℕ)) : Type 0 where
  pub line : List ℕ
  pub is : shows line
  pub now : new ≡ old ++ line ∷ []

-- the lines of the items were added
pub record AddsLinesFor {A : Type 0} (passed : A → Type 0) (shows : A → List ℕ → Type 0)
    (items : List A) (old new : List (List ℕ)) : Type 0 where
  pub made : List (List ℕ)
  pub are : AreLinesFor passed shows items made
  pub now : new ≡ old ++ made
