-- What a side passes on to the other, as steps of a pair of worlds.
use Rattle.std.specs.Prelude.{◌≡◌, ◌<◌, ℕ, List, ◌++◌, Option, Some, None}
use Rattle.std.specs.List.{AllByRecursion}
use Rattle.receipt_core.specs.Acceptance.{IsMeaning, Meaning}
use Rattle.replica_core.specs.State.{meaning_of_state}
use Rattle.replica_core.specs.declared.entry.Entry.{Entry}
use Rattle.side_by_side.specs.Offering.{IsEntryHeld}
use Rattle.side_by_side.specs.PairWorlds.{PairRun, PairWorld, Step, pair_after}
use Rattle.side_by_side.specs.PairWorlds.{event_at, limited_at, receipt_over, record_over}
use Rattle.side_by_side.specs.Promise.{LinesSay}
use Rattle.side_by_side.specs.Sides.{Passing, SidePair, side_meaning}
use Rattle.side_by_side.specs.declared.sides.Side.{Side}
use Rattle.side_by_side.specs.declared.sides.Side.TheVariants.{Next, Previous}

-- The replica offers, to its other side, something of what it holds on this side.
abbrev pub IsOverFrom : Side → ℕ → Step → Type 0
IsOverFrom from replica (event_at side event) = ⊥
IsOverFrom from replica (receipt_over side i place) = (side ≡ from) × (i ≡ replica)
IsOverFrom from replica (record_over side i place) = (side ≡ from) × (i ≡ replica)

-- these happened after those
abbrev pub then_steps : PairRun → List Step → PairRun
then_steps past since = record past { steps = past.steps ++ since }

-- The replica has both sides, and holds on each what it has in that world of the pair.
pub record HoldsIn (past : PairRun) (replica : ℕ) (pair : SidePair) : Type 0 where
  pub next : pair.next
      ≡ meaning_of_state (limited_at past Next replica) ((pair_after past).next.now replica)
  pub previous : pair.previous ≡ Some (meaning_of_state (limited_at past Previous replica)
      ((pair_after past).previous.now replica))

abbrev pub IsHeldOn : Option Meaning → Entry → Type 0
IsHeldOn None entry = ⊥
IsHeldOn (Some m) entry = IsEntryHeld m entry

-- After what happened a replica passes on lines of what it holds on this side.
pub record PassesOwn (past : PairRun) (replica : ℕ) (from : Side) (p : Passing) : Type 0 where
  pub inside : replica < past.replicas
  pub holds : HoldsIn past replica p.old
  pub valid : (side : Side) (m : Meaning) → side_meaning p.old side ≡ Some m → IsMeaning m
  pub own : (entry : Entry) → LinesSay p.texts entry
      → IsHeldOn (side_meaning p.old from) entry

-- It is as after these steps, in each of which the replica offers what it holds on this side.
pub record IsAfterSteps (past : PairRun) (replica : ℕ) (from : Side)
    (new : SidePair) : Type 0 where
  pub steps : List Step
  pub each : AllByRecursion (IsOverFrom from replica) steps
  pub holds : HoldsIn (then_steps past steps) replica new
