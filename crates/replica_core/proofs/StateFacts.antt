-- Every state is a pair of sorted lists within the limits, and a number without a replica holds
-- nothing.
use Rattle.std.proofs.Common.{◌≡◌, ℕ, ◌+◌, ◌≤◌, inl, inr, Bool, true, false, List, [], ◌∷◌, arith, refl, sym, subst, leb-true, le-leb, nat_le}
use Rattle.std.specs.List.Sorted.{IsStrictlySortedBy}
use Rattle.std.proofs.lemmas.Bool.{and_from, cases_eq}
use Rattle.receipt_core.specs.Receipt.{receipt_cmp, distrust_cmp}
use Rattle.replica_core.specs.State.{State, no_state, joined, is_within_limits}
use Rattle.replica_core.specs.World.{World, empty_world, Rules, apply, at_replica, gained, happens, run_from, is_replica}
use Rattle.replica_core.specs.declared.event.Event.{Event}
use Rattle.replica_core.proofs.JoinLawFacts.{Laws}
use Rattle.replica_core.proofs.EventFacts.{covered, at-here, at-other}
use Rattle.fed_config.specs.declared.limits.Limits.{Limits}

-- two sorted lists within the limits
pub record IsTidy (limits : Limits) (state : State) : Type 0 where
  pub rising : IsStrictlySortedBy receipt_cmp state.held
  pub records_rising : IsStrictlySortedBy distrust_cmp state.records
  pub within : is_within_limits limits state ≡ true

-- a property of every state that is held or saved
pub record Throughout (P : ℕ → State → Type 0) (w : World) : Type 0 where
  pub now : (i : ℕ) → P i (w.now i)
  pub saved : (i : ℕ) → P i (w.saved i)

-- It remains so when one replica's state is replaced by one that has the property.
throughout-at : (P : ℕ → State → Type 0) (i k : ℕ) (state : State) (states : ℕ → State) → P k state → P i (states i) → P i (at_replica k state states i)
throughout-at P i k state states here there =
    elim (cases_eq i k) [
      | inl e ↦ subst (λ j. P j (at_replica k state states j)) (sym e) (subst (P k) (sym (at-here k state states)) here)
      | inr d ↦ subst (P i) (sym (at-other i k state states d)) there
    ]

-- It remains so after a gain that keeps the property or is beyond the limits.
throughout-gained : (P : ℕ → State → Type 0) (b : Bool) (w : World) (k : ℕ) (state : State) → Throughout P w
    → (b ≡ true → P k state) → Throughout P (gained b w k state)
throughout-gained P true w k state h s = record { now = λ i. throughout-at P i k state w.now (s refl) (h.now i); saved = h.saved }
throughout-gained P false w k state h s = h

-- Saves and restarts keep every property that is the same for all replicas or concerns none: a gain
-- has to show it.
pub record IsKeptByGains (rules : Rules) (P : ℕ → State → Type 0) : Type 0 where
  pub gain : (k : ℕ) (state more : State) → is_replica rules k ≡ true → P k state → is_within_limits (rules.limits k) (joined state more) ≡ true
      → P k (joined state more)

-- It remains so over each event if gains keep the property.
pub throughout-event : (rules : Rules) (P : ℕ → State → Type 0) → IsKeptByGains rules P → (w : World) (event : Event)
    → Throughout P w → Throughout P (happens rules w event)
throughout-event rules P kept w event h =
    covered rules w event (λ effect. Throughout P (apply rules.limits w effect)) (record {
      idle = h;
      more = λ k gain e. throughout-gained P (is_within_limits (rules.limits k) (joined (w.now k) gain)) w k (joined (w.now k) gain) h
          (λ b. kept.gain k (w.now k) gain e (h.now k) b);
      stated = λ message. record { now = h.now; saved = h.saved };
      kept = λ k e s. record { now = h.now; saved = λ i. throughout-at P i k (w.now k) w.saved (h.now k) (h.saved i) };
      again = λ k e s. record { now = λ i. throughout-at P i k (w.saved k) w.now (h.saved k) (h.now i); saved = h.saved };
    })

-- So it remains so over each list of events.
pub throughout-run : (rules : Rules) (P : ℕ → State → Type 0) → IsKeptByGains rules P
    → (events : List Event) (w : World) → Throughout P w → Throughout P (run_from rules w events)
throughout-run rules P kept [] w h = h
throughout-run rules P kept (event ∷ events) w h = throughout-run rules P kept events (happens rules w event) (throughout-event rules P kept w event h)

-- ---- sorted lists within the limits

-- A gain within the limits joins sorted lists into sorted lists.
pub tidy-kept : (laws : Laws) (rules : Rules) → IsKeptByGains rules (λ i state. IsTidy (rules.limits i) state)
tidy-kept laws rules = record {
  gain = λ k state more e t b. record {
    rising = laws.receipts.rising more.held state.held t.rising;
    records_rising = laws.records.rising more.records state.records t.records_rising;
    within = b;
  };
}

-- Nothing is within all limits.
none-within : (limits : Limits) → is_within_limits limits no_state ≡ true
none-within limits =
    and_from (nat_le 0 limits.receipts) (nat_le 0 limits.records) (le-leb 0 limits.receipts (omega arith)) (le-leb 0 limits.records (omega arith))

-- At the beginning all lists are empty, so they rise.
pub tidy-empty : (limits : ℕ → Limits) → Throughout (λ i state. IsTidy (limits i) state) empty_world
unfolding IsStrictlySortedBy
tidy-empty limits = record {
  now = λ i. record { rising = tt; records_rising = tt; within = none-within (limits i) };
  saved = λ i. record { rising = tt; records_rising = tt; within = none-within (limits i) };
}

-- ---- numbers without a replica

-- a number without a replica holds nothing
abbrev pub IsOutside : Rules → ℕ → State → Type 0
IsOutside rules i state = rules.replicas ≤ i → state ≡ no_state

-- A number without a replica gains nothing.
pub outside-kept : (rules : Rules) → IsKeptByGains rules (IsOutside rules)
outside-kept rules = record {
  gain = λ k state more e o b l. absurd (let inside : k + 1 ≤ rules.replicas = leb-true (k + 1) rules.replicas e in omega arith);
}

-- At the beginning nothing is held.
pub outside-empty : (rules : Rules) → Throughout (IsOutside rules) empty_world
outside-empty rules = record { now = λ i l. refl; saved = λ i l. refl }
