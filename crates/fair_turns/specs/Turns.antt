-- Whose turn it is among the connections that wait.
use Rattle.std.specs.Prelude.{◌<◌, ◌≤◌, ◌⊎◌, ℕ, Bool, IsTrue, true, false}
use Rattle.fair_turns.specs.declared.turns.Turns.{Turns}
use Rattle.fair_turns.specs.declared.turns.Work.{Work}
use Rattle.fair_turns.specs.declared.turns.Work.TheVariants.{Change, Long, Short}

-- After `last` had its turn, `first` has its turn before `second`: the numbers above `last` come
-- first, and those up to it after them, each from the least on.
abbrev pub ComesFirst : ℕ → ℕ → ℕ → Type 0
ComesFirst first second last = (last < first) × ((second ≤ last) ⊎ (first < second))
    ⊎ (first ≤ last) × (second ≤ last) × (first < second)

-- who had the last turn of the work
abbrev pub turn_of : Turns → Work → ℕ
turn_of turns Short = turns.short
turn_of turns Long = turns.long
turn_of turns Change = turns.change

-- The work is there, apart from the short one.
abbrev pub IsThere : Bool → Bool → Work → Type 0
IsThere has_long has_change Short = ⊥
IsThere has_long has_change Long = IsTrue has_long
IsThere has_long has_change Change = IsTrue has_change

-- which of the two has its turn if both are there
abbrev pub work_next : Bool → Work
work_next false = Long
work_next true = Change

-- whether a change has the next turn after this work
abbrev pub change_after : Work → Bool
change_after Short = false
change_after Long = true
change_after Change = false
