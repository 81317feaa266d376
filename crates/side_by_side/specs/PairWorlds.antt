-- Replicas between two configurations: a world for each, and what a replica holds in one of them is
-- offered to itself in the other.
use Rattle.std.specs.Prelude.{ℕ, List, [], ◌∷◌, ◌++◌, Option, Some, None, slice_get, fold, ⊤}
use Rattle.std.specs.List.{AllByRecursion}
use Rattle.fed_config.specs.Configuration.{Configuration}
use Rattle.fed_config.specs.declared.limits.Limits.{Limits}
use Rattle.closure_core.specs.Alike.{with_limits}
use Rattle.receipt_core.specs.declared.distrust.Distrust.{Distrust}
use Rattle.receipt_core.specs.Receipt.{Receipt}
use Rattle.replica_core.specs.World.{World, Rules, WorldRun, empty_world, rules_with, run_from}
use Rattle.replica_core.specs.Convergence.{IsEvent}
use Rattle.replica_core.specs.declared.event.Event.{Event}
use Rattle.replica_core.specs.declared.event.Event.TheVariants.{Take, Revoke}
use Rattle.side_by_side.specs.declared.sides.Side.{Side}
use Rattle.side_by_side.specs.declared.sides.Side.TheVariants.{Next, Previous}

-- the replicas under each configuration
pub record PairWorld : Type 0 where
  pub next : World
  pub previous : World

abbrev pub world_at : PairWorld → Side → World
world_at pair Next = pair.next
world_at pair Previous = pair.previous

abbrev pub other_side : Side → Side
other_side Next = Previous
other_side Previous = Next

-- An event happens on one side; or a replica offers, to its other side, the receipt or the record
-- at a place of what it holds on this side.
pub data Step : Type 0 where
  event_at : (side : Side) (event : Event) → Step
  receipt_over : (from : Side) (replica place : ℕ) → Step
  record_over : (from : Side) (replica place : ℕ) → Step

-- To take it is an event of the other side. Nothing happens if that place is empty.
abbrev pub take_of : ℕ → Option Receipt → List Event
take_of replica None = []
take_of replica (Some r) = Take replica r ∷ []

abbrev pub revoke_of : ℕ → Option Distrust → List Event
revoke_of replica None = []
revoke_of replica (Some x) = Revoke replica x ∷ []

-- what happens by the step on the next side
abbrev pub next_events : PairWorld → Step → List Event
next_events pair (event_at Next event) = event ∷ []
next_events pair (event_at Previous event) = []
next_events pair (receipt_over Next i place) = []
next_events pair (receipt_over Previous i place) =
    take_of i (slice_get (pair.previous.now i).held place)
next_events pair (record_over Next i place) = []
next_events pair (record_over Previous i place) =
    revoke_of i (slice_get (pair.previous.now i).records place)

-- what happens by the step on the previous side
abbrev pub previous_events : PairWorld → Step → List Event
previous_events pair (event_at Next event) = []
previous_events pair (event_at Previous event) = event ∷ []
previous_events pair (receipt_over Next i place) =
    take_of i (slice_get (pair.next.now i).held place)
previous_events pair (receipt_over Previous i place) = []
previous_events pair (record_over Next i place) =
    revoke_of i (slice_get (pair.next.now i).records place)
previous_events pair (record_over Previous i place) = []

abbrev pub events_by : PairWorld → Side → Step → List Event
events_by pair Next step = next_events pair step
events_by pair Previous step = previous_events pair step

-- ---- runs

-- two configurations, and what happened to replicas that have both, each side with limits of its
-- own
pub record PairRun : Type 0 where
  pub next : Configuration
  pub previous : Configuration
  pub limits : Side → ℕ → Limits
  pub replicas : ℕ
  pub steps : List Step

abbrev pub config_at : PairRun → Side → Configuration
config_at past Next = past.next
config_at past Previous = past.previous

-- with the limits of this replica on that side
abbrev pub limited_at : PairRun → Side → ℕ → Configuration
limited_at past side replica = with_limits (config_at past side) (past.limits side replica)

abbrev pub rules_at : PairRun → Side → Rules
rules_at past side = rules_with (config_at past side) (past.limits side) past.replicas

-- A receipt that is offered does what a take does: nothing if it does not fit that side.
abbrev pub steps_to : PairRun → PairWorld → Step → PairWorld
steps_to past pair step = record {
  next = run_from (rules_at past Next) pair.next (events_by pair Next step);
  previous = run_from (rules_at past Previous) pair.previous (events_by pair Previous step);
}

abbrev pub pair_from : PairRun → PairWorld → List Step → PairWorld
pair_from past pair steps = fold (steps_to past) pair steps

abbrev pub empty_pair : PairWorld
empty_pair = record { next = empty_world; previous = empty_world }

abbrev pub pair_after : PairRun → PairWorld
pair_after past = pair_from past empty_pair past.steps

-- ---- one side of a run

-- all that happens on this side by these steps
abbrev pub events_from : PairRun → Side → PairWorld → List Step → List Event
events_from past side pair [] = []
events_from past side pair (step ∷ steps) = events_by pair side step
    ++ events_from past side (steps_to past pair step) steps

-- this side's part of the run: a run of one configuration
abbrev pub side_run : PairRun → Side → WorldRun
side_run past side = record {
  config = config_at past side;
  limits = past.limits side;
  replicas = past.replicas;
  events = events_from past side empty_pair past.steps;
}

-- what is taken is a receipt, and what is revoked a record
abbrev pub IsStep : Step → Type 0
IsStep (event_at side event) = IsEvent event
IsStep (receipt_over from i place) = ⊤
IsStep (record_over from i place) = ⊤

abbrev pub AreSteps : List Step → Type 0
AreSteps = AllByRecursion IsStep
