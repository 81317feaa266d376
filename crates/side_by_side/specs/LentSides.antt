-- Both sides, once a closure that was lent has come back.
use Rattle.std.specs.Prelude.{◌≡◌, Some}
use Rattle.side_by_side.specs.declared.sides.Side.{Side}
use Rattle.side_by_side.specs.declared.sides.Side.TheVariants.{Next, Previous}
use Rattle.side_by_side.specs.declared.sides.Sides.{Sides}

-- both sides with this closure on one of them
abbrev pub with_side : {C : Type 0} → Side → Sides C → C → Sides C
with_side Next sides c = record sides { next = c }
with_side Previous sides c = record sides { previous = Some c }

-- The closure of the side that was named came back as this, and the other side is as it was.
pub record HasLent {C : Type 0} (IsNamed : Side → Type 0) (old new : Sides C) (c : C)
    : Type 0 where
  pub side : Side
  pub named : IsNamed side
  pub new_is : new ≡ with_side side old c
