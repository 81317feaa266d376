-- Each side of a run of a pair of worlds is a run of a world.
use Rattle.std.proofs.Common.{◌≡◌, ℕ, zero, suc, List, [], ◌∷◌, ◌++◌, Option, Some, None, refl, sym, ap, ◌∙◌, subst}
use Rattle.std.specs.Prelude.{Contains, slice_get}
use Rattle.std.proofs.lemmas.List.Sums.{fold-append}
use Rattle.receipt_core.specs.declared.distrust.Distrust.{Distrust}
use Rattle.receipt_core.specs.Receipt.{Receipt, IsReceipt, IsDistrust}
use Rattle.replica_core.specs.World.{World, WorldRun, empty_world, happens, held_by, run, run_from, world_after}
use Rattle.replica_core.specs.Convergence.{AreEvents, ComesFrom, IsEvent}
use Rattle.replica_core.specs.declared.event.Event.{Event}
use Rattle.replica_core.specs.declared.event.Event.TheVariants.{Take, Revoke}
use Rattle.replica_core.proofs.ContainsFacts.{contains-here, contains-later}
use Rattle.replica_core.proofs.RisingListFacts.{all_append, all_back}
use Rattle.side_by_side.specs.declared.sides.Side.{Side}
use Rattle.side_by_side.specs.declared.sides.Side.TheVariants.{Next, Previous}
use Rattle.side_by_side.specs.PairWorlds.{AreSteps, IsStep, PairRun, PairWorld, Step, event_at, receipt_over, record_over, config_at, empty_pair, events_by}
use Rattle.side_by_side.specs.PairWorlds.{events_from, pair_after, pair_from, revoke_of, rules_at, side_run, steps_to, take_of, world_at}

-- ---- each side by itself

next_from : (past : PairRun) (steps : List Step) (pair : PairWorld)
    → (pair_from past pair steps).next ≡ run_from (rules_at past Next) pair.next (events_from past Next pair steps)
next_from past [] pair = refl
next_from past (step ∷ steps) pair =
    next_from past steps (steps_to past pair step)
    ∙ sym (fold-append (happens (rules_at past Next)) pair.next (events_by pair Next step) (events_from past Next (steps_to past pair step) steps))

previous_from : (past : PairRun) (steps : List Step) (pair : PairWorld)
    → (pair_from past pair steps).previous ≡ run_from (rules_at past Previous) pair.previous (events_from past Previous pair steps)
previous_from past [] pair = refl
previous_from past (step ∷ steps) pair =
    previous_from past steps (steps_to past pair step)
    ∙ sym (fold-append (happens (rules_at past Previous)) pair.previous (events_by pair Previous step)
    (events_from past Previous (steps_to past pair step) steps))

-- The law `each`.
pub each_side : (past : PairRun) (side : Side) → world_at (pair_after past) side ≡ world_after (side_run past side)
each_side past Next = next_from past past.steps empty_pair
each_side past Previous = previous_from past past.steps empty_pair

-- ---- what is offered has its form

-- The item at a place is in the list.
at_place : {X : Type 0} (xs : List X) (n : ℕ) (x : X) → slice_get xs n ≡ Some x → Contains xs x
at_place [] n x is = absurd (let no : None ≡ Some x = is in cc)
at_place (y ∷ ys) zero x is = let same : y ≡ x = (let s : Some y ≡ Some x = is in cc) in subst (Contains (y ∷ ys)) same (contains-here y ys)
at_place (y ∷ ys) (suc n) x is = contains-later y ys x (at_place ys n x is)

-- What is held comes from an event.
abbrev Provenance : Type 0
Provenance = (past : WorldRun) (i : ℕ) → ComesFrom past (held_by past i)

receipt_form : Provenance → (past : WorldRun) (i : ℕ) (r : Receipt) → AreEvents past.events → Contains (held_by past i).held r → IsReceipt r
receipt_form comes past i r are has =
    let taken = (comes past i).receipts r has in
    (all_back IsEvent taken.before (Take taken.replica r ∷ taken.after) (subst AreEvents taken.order are)).0

record_form : Provenance → (past : WorldRun) (i : ℕ) (x : Distrust) → AreEvents past.events → Contains (held_by past i).records x → IsDistrust x
record_form comes past i x are has =
    let revoked = (comes past i).distrusts x has in
    (all_back IsEvent revoked.before (Revoke revoked.replica x ∷ revoked.after) (subst AreEvents revoked.order are)).0

take_event : (i : ℕ) (found : Option Receipt) → ((r : Receipt) → found ≡ Some r → IsReceipt r) → AreEvents (take_of i found)
take_event i None form = tt
take_event i (Some r) form = (form r refl, tt)

revoke_event : (i : ℕ) (found : Option Distrust) → ((x : Distrust) → found ≡ Some x → IsDistrust x) → AreEvents (revoke_of i found)
revoke_event i None form = tt
revoke_event i (Some x) form = (form x refl, tt)

-- ---- the events of each side

-- The worlds came from events.
record IsReached (past : PairRun) (pair : PairWorld) : Type 0 where
  next : List Event
  previous : List Event
  next_are : AreEvents next
  previous_are : AreEvents previous
  next_is : pair.next ≡ run (rules_at past Next) next
  previous_is : pair.previous ≡ run (rules_at past Previous) previous

take_over : Provenance → (past : PairRun) (side : Side) (events : List Event) (w : World) (i place : ℕ) → AreEvents events
    → w ≡ run (rules_at past side) events → AreEvents (take_of i (slice_get (w.now i).held place))
take_over comes past side events w i place are is =
    take_event i (slice_get (w.now i).held place)
    (λ r found. receipt_form comes (record { config = config_at past side; limits = past.limits side; replicas = past.replicas; events = events }) i r are
    (subst (λ (w : World). Contains (w.now i).held r) is (at_place (w.now i).held place r found)))

revoke_over : Provenance → (past : PairRun) (side : Side) (events : List Event) (w : World) (i place : ℕ) → AreEvents events
    → w ≡ run (rules_at past side) events → AreEvents (revoke_of i (slice_get (w.now i).records place))
revoke_over comes past side events w i place are is =
    revoke_event i (slice_get (w.now i).records place)
    (λ x found. record_form comes (record { config = config_at past side; limits = past.limits side; replicas = past.replicas; events = events }) i x are
    (subst (λ (w : World). Contains (w.now i).records x) is (at_place (w.now i).records place x found)))

-- What happens by a step on each side.
next_step : Provenance → (past : PairRun) (pair : PairWorld) (step : Step) → IsReached past pair → IsStep step → AreEvents (events_by pair Next step)
next_step comes past pair (event_at Next event) at is = (is, tt)
next_step comes past pair (event_at Previous event) at is = tt
next_step comes past pair (receipt_over Next i place) at is = tt
next_step comes past pair (receipt_over Previous i place) at is =
    take_over comes past Previous at.previous pair.previous i place at.previous_are at.previous_is
next_step comes past pair (record_over Next i place) at is = tt
next_step comes past pair (record_over Previous i place) at is =
    revoke_over comes past Previous at.previous pair.previous i place at.previous_are at.previous_is

previous_step : Provenance → (past : PairRun) (pair : PairWorld) (step : Step) → IsReached past pair → IsStep step → AreEvents (events_by pair Previous step)
previous_step comes past pair (event_at Next event) at is = tt
previous_step comes past pair (event_at Previous event) at is = (is, tt)
previous_step comes past pair (receipt_over Next i place) at is = take_over comes past Next at.next pair.next i place at.next_are at.next_is
previous_step comes past pair (receipt_over Previous i place) at is = tt
previous_step comes past pair (record_over Next i place) at is = revoke_over comes past Next at.next pair.next i place at.next_are at.next_is
previous_step comes past pair (record_over Previous i place) at is = tt

-- The worlds after a step came from events.
reached_step : Provenance → (past : PairRun) (pair : PairWorld) (step : Step) → IsReached past pair → IsStep step → IsReached past (steps_to past pair step)
reached_step comes past pair step at is = record {
  next = at.next ++ events_by pair Next step;
  previous = at.previous ++ events_by pair Previous step;
  next_are = all_append IsEvent at.next (events_by pair Next step) at.next_are (next_step comes past pair step at is);
  previous_are = all_append IsEvent at.previous (events_by pair Previous step) at.previous_are (previous_step comes past pair step at is);
  next_is = ap (λ (w : World). run_from (rules_at past Next) w (events_by pair Next step)) at.next_is
      ∙ sym (fold-append (happens (rules_at past Next)) empty_world at.next (events_by pair Next step));
  previous_is = ap (λ (w : World). run_from (rules_at past Previous) w (events_by pair Previous step)) at.previous_is
      ∙ sym (fold-append (happens (rules_at past Previous)) empty_world at.previous (events_by pair Previous step));
}

-- What happens by a step on a side.
side_step : Provenance → (past : PairRun) (side : Side) (pair : PairWorld) (step : Step) → IsReached past pair → IsStep step
    → AreEvents (events_by pair side step)
side_step comes past Next pair step at is = next_step comes past pair step at is
side_step comes past Previous pair step at is = previous_step comes past pair step at is

all_steps : Provenance → (past : PairRun) (side : Side) (steps : List Step) (pair : PairWorld) → IsReached past pair → AreSteps steps
    → AreEvents (events_from past side pair steps)
all_steps comes past side [] pair at are = tt
all_steps comes past side (step ∷ steps) pair at are =
    all_append IsEvent (events_by pair side step) (events_from past side (steps_to past pair step) steps)
    (side_step comes past side pair step at are.0)
    (all_steps comes past side steps (steps_to past pair step) (reached_step comes past pair step at are.0) are.1)

-- The law `events`.
pub side_events : Provenance → (past : PairRun) (side : Side) → AreSteps past.steps → AreEvents (side_run past side).events
side_events comes past side are =
    all_steps comes past side past.steps empty_pair
    (record { next = []; previous = []; next_are = tt; previous_are = tt; next_is = refl; previous_is = refl }) are
