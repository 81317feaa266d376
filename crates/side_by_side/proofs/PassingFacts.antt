-- What a side passes on is steps of a pair of worlds.
use Rattle.std.proofs.Common.{◌≡◌, ℕ, zero, suc, ◌+◌, ◌≤◌, ◌<◌, inl, inr, true, nat_le, List, [], ◌∷◌, ◌++◌, length, Option, Some, None}
use Rattle.std.proofs.Common.{refl, sym, ap, ◌∙◌, subst, arith, le-leb}
use Rattle.std.specs.Prelude.{Contains, slice_get}
use Rattle.std.specs.List.{AllByRecursion}
use Rattle.std.proofs.lemmas.Bool.{and_from, cases_lt}
use Rattle.std.proofs.lemmas.List.Elements.{Contains-append_left}
use Rattle.std.proofs.lemmas.List.Sums.{fold-append}
use Rattle.fed_config.specs.Configuration.{Configuration, HasDomain}
use Rattle.receipt_core.specs.declared.distrust.Distrust.{Distrust}
use Rattle.receipt_core.specs.Receipt.{Receipt, IsReceipt}
use Rattle.receipt_core.specs.Acceptance.{IsFitting, IsMeaning, Meaning}
use Rattle.receipt_core.specs.Limits.{receipt_limit, record_limit}
use Rattle.replica_core.specs.Convergence.{Gains, only_receipt, only_record}
use Rattle.replica_core.specs.State.{State, is_within_limits, joined, limits_of, meaning_of_state}
use Rattle.replica_core.specs.World.{World, WorldRun, config_in, empty_world, happens, rules_in, run_from, world_after}
use Rattle.closure_core.specs.Alike.{IsSameTrust}
use Rattle.closure_core.proofs.AlikeFacts.{domain_alike, fits_alike}
use Rattle.replica_core.specs.declared.entry.Entry.{Entry}
use Rattle.replica_core.specs.declared.entry.Entry.TheVariants.{Record, Receipt as AReceipt}
use Rattle.replica_core.specs.declared.event.Event.{Event}
use Rattle.replica_core.specs.declared.event.Event.TheVariants.{Take, Revoke}
use Rattle.replica_core.proofs.ContainsFacts.{contains-cases, contains-none}
use Rattle.replica_core.proofs.RisingListFacts.{all_append}
use Rattle.replica_texts.specs.declared.entry_line.Wanted.TheVariants.{Either}
use Rattle.replica_texts.specs.Entries.{IsEntry, entry_line}
use Rattle.replica_texts.specs.SoleLines.{IsWellFormed}
use Rattle.side_by_side.specs.declared.fate.Fate.{Fate}
use Rattle.side_by_side.specs.declared.fate.Fate.TheVariants.{Taken, Held, Unfit, NoPlace, Unread}
use Rattle.side_by_side.specs.declared.offer_counts.Offered.{Offered}
use Rattle.side_by_side.specs.declared.sides.Side.{Side}
use Rattle.side_by_side.specs.declared.sides.Side.TheVariants.{Next, Previous}
use Rattle.side_by_side.specs.Offering.{HasTakenOffered, IsEntryHeld, Kept, OffersInTurn, OffersLine, as_kept}
use Rattle.side_by_side.specs.PairWorlds.{PairRun, PairWorld, Step, receipt_over, record_over, config_at, empty_pair, limited_at, other_side}
use Rattle.side_by_side.specs.PairWorlds.{pair_after, pair_from}
use Rattle.side_by_side.specs.PairWorlds.{revoke_of, rules_at, side_run, steps_to, take_of, world_at}
use Rattle.side_by_side.specs.PassedSteps.{IsAfterSteps, IsHeldOn, IsOverFrom, PassesOwn, then_steps}
use Rattle.side_by_side.specs.Promise.{LinesSay}
use Rattle.side_by_side.specs.Sides.{IsOfferedPart, IsOfferedTo, Passing, PassesPartToOther, PassesToOther, lines_in}
use Rattle.side_by_side.proofs.EntryFacts.{SetLaws, always}
use Rattle.side_by_side.proofs.HeldOfferFacts.{held_law}
use Rattle.side_by_side.proofs.OfferFacts.{said_first, said_later}
use Rattle.side_by_side.proofs.PairWorldFacts.{each_side}

-- ---- one event

-- what an event brings
pub record GainLaws : Type 0 where
  pub takes : (past : WorldRun) (i : ℕ) (r : Receipt) → i < past.replicas → IsFitting past.config r → Gains past (Take i r) i (only_receipt r)
  pub revokes : (past : WorldRun) (i : ℕ) (x : Distrust) → i < past.replicas → HasDomain past.config x.domain → Gains past (Revoke i x) i (only_record x)

-- both kinds of laws
pub record PassLaws : Type 0 where
  pub sets : SetLaws
  pub gains : GainLaws

-- After an event that brings something the replica holds it too.
happened : (past : WorldRun) (w : World) (event : Event) (i : ℕ) (gain : State) → w ≡ world_after past → Gains past event i gain
    → is_within_limits (limits_of (config_in past i)) (joined (w.now i) gain) ≡ true → (happens (rules_in past) w event).now i ≡ joined (w.now i) gain
happened past w event i gain is gains within =
    ap (λ (v : World). (happens (rules_in past) v event).now i) is
    ∙ sym (ap (λ (v : World). v.now i) (fold-append (happens (rules_in past)) empty_world past.events (event ∷ [])))
    ∙ gains (subst (λ (v : World). is_within_limits (limits_of (config_in past i)) (joined (v.now i) gain) ≡ true) is within)
    ∙ ap (λ (v : World). joined (v.now i) gain) (sym is)

-- what is known of what is held on the side to which something is passed on
record IsTame (m : Meaning) : Type 0 where
  forms : AllByRecursion IsReceipt m.held
  few : length m.held ≤ receipt_limit m.config
  few_records : length m.records ≤ record_limit m.config

-- One more has a place.
one_place : (limit count : ℕ) → (limit ≤ count → ⊥) → count + 1 ≤ limit
one_place limit count place = elim (cases_lt count limit) [
  | inl less ↦ omega (arith, less)
  | inr full ↦ absurd (place full)
]

-- what takes one more
abbrev event_of : ℕ → Entry → Event
event_of i (Record x) = Revoke i x
event_of i (AReceipt r) = Take i r

-- What was taken is tame, and within the limits.
tame_taken : SetLaws → (m : Meaning) (e : Entry) (new : Meaning) → IsWellFormed e → IsTame m → HasTakenOffered m e new → IsTame new
tame_taken laws m (Record x) new form tame h =
    let longer = laws.records.longer x m.records tt (always m.records) h.unheld in
    let limit = one_place (record_limit m.config) (length m.records) h.place in
    subst IsTame (sym h.meaning) (record { forms = tame.forms; few = tame.few; few_records = omega (arith, longer, limit) })
tame_taken laws m (AReceipt r) new form tame h =
    let longer = laws.receipts.longer r m.held form tame.forms h.unheld in
    let limit = one_place (receipt_limit m.config) (length m.held) h.place in
    subst IsTame (sym h.meaning) (record {
      forms = laws.receipts.keeps r m.held form tame.forms;
      few = omega (arith, longer, limit);
      few_records = tame.few_records;
    })

-- What is tame is within the limits.
tame_within : (config : Configuration) (s : State) → IsTame (meaning_of_state config s) → is_within_limits (limits_of config) s ≡ true
tame_within config s tame =
    and_from (nat_le (length s.held) (receipt_limit config)) (nat_le (length s.records) (record_limit config))
    (le-leb (length s.held) (receipt_limit config) tame.few) (le-leb (length s.records) (record_limit config) tame.few_records)

-- A replica's limits change nothing of what fits.
own_limits : (past : WorldRun) (i : ℕ) → IsSameTrust (config_in past i) past.config
own_limits past i = record { relationships = refl; seeds = refl; floors = refl }

-- A take that had a place is the event.
take_happens : PassLaws → (past : WorldRun) (w : World) (i : ℕ) (e : Entry) (new : Meaning) → i < past.replicas → w ≡ world_after past → IsWellFormed e
    → IsTame (meaning_of_state (config_in past i) (w.now i)) → HasTakenOffered (meaning_of_state (config_in past i) (w.now i)) e new
    → new ≡ meaning_of_state (config_in past i) ((happens (rules_in past) w (event_of i e)).now i)
take_happens laws past w i (Record x) new inside is form tame h =
    let within = tame_within (config_in past i) (joined (w.now i) (only_record x))
    (subst IsTame h.meaning (tame_taken laws.sets (meaning_of_state (config_in past i) (w.now i)) (Record x) new form tame h)) in
    h.meaning ∙ ap (meaning_of_state (config_in past i))
    (sym (happened past w (Revoke i x) i (only_record x) is (laws.gains.revokes past i x inside
    (domain_alike (config_in past i) past.config (own_limits past i) x.domain h.fits)) within))
take_happens laws past w i (AReceipt r) new inside is form tame h =
    let within = tame_within (config_in past i) (joined (w.now i) (only_receipt r))
    (subst IsTame h.meaning (tame_taken laws.sets (meaning_of_state (config_in past i) (w.now i)) (AReceipt r) new form tame h)) in
    h.meaning ∙ ap (meaning_of_state (config_in past i))
    (sym (happened past w (Take i r) i (only_receipt r) is (laws.gains.takes past i r inside
    (fits_alike (config_in past i) past.config (own_limits past i) r h.fits)) within))

-- ---- one step

-- What a list has is at a place.
placed_at : {X : Type 0} (xs : List X) (x : X) → Contains xs x → (n : ℕ) × (slice_get xs n ≡ Some x)
placed_at [] x has = absurd (contains-none x has)
placed_at (y ∷ ys) x has = elim (contains-cases y ys x has) [
  | inl same ↦ (zero, ap Some (sym same))
  | inr later ↦ let rest = placed_at ys x later in (suc rest.0, rest.1)
]

-- The step in which it is offered, what it does on the other side, and that it leaves this side.
record IsOver (past : PairRun) (pair : PairWorld) (from : Side) (i : ℕ) (e : Entry) : Type 0 where
  step : Step
  over : IsOverFrom from i step
  here : world_at (steps_to past pair step) from ≡ world_at pair from
  there : world_at (steps_to past pair step) (other_side from) ≡ happens (rules_at past (other_side from)) (world_at pair (other_side from)) (event_of i e)

over_for : (past : PairRun) (pair : PairWorld) (from : Side) (i : ℕ) (e : Entry)
    → IsEntryHeld (meaning_of_state (limited_at past from i) ((world_at pair from).now i)) e → IsOver past pair from i e
over_for past pair Next i (Record x) has =
    let at = placed_at (pair.next.now i).records x has in
    record {
      step = record_over Next i at.0;
      over = (refl, refl);
      here = refl;
      there = ap (λ (o : Option Distrust). run_from (rules_at past Previous) pair.previous (revoke_of i o)) at.1;
    }
over_for past pair Next i (AReceipt r) has =
    let at = placed_at (pair.next.now i).held r has in
    record {
      step = receipt_over Next i at.0;
      over = (refl, refl);
      here = refl;
      there = ap (λ (o : Option Receipt). run_from (rules_at past Previous) pair.previous (take_of i o)) at.1;
    }
over_for past pair Previous i (Record x) has =
    let at = placed_at (pair.previous.now i).records x has in
    record {
      step = record_over Previous i at.0;
      over = (refl, refl);
      here = refl;
      there = ap (λ (o : Option Distrust). run_from (rules_at past Next) pair.next (revoke_of i o)) at.1;
    }
over_for past pair Previous i (AReceipt r) has =
    let at = placed_at (pair.previous.now i).held r has in
    record {
      step = receipt_over Previous i at.0;
      over = (refl, refl);
      here = refl;
      there = ap (λ (o : Option Receipt). run_from (rules_at past Next) pair.next (take_of i o)) at.1;
    }

-- ---- lines in turn

-- The other side is in this world after these events, and the replica holds this there.
record IsThere (past : PairRun) (from : Side) (i : ℕ) (pair : PairWorld) (m : Meaning) : Type 0 where
  events : List Event
  run : world_at pair (other_side from) ≡ run_from (rules_at past (other_side from)) empty_world events
  holds : m ≡ meaning_of_state (limited_at past (other_side from) i) ((world_at pair (other_side from)).now i)
  tame : IsTame m

-- After these steps it holds this there, and this side is as it was.
record ComesOver (past : PairRun) (from : Side) (i : ℕ) (pair : PairWorld) (m : Meaning) : Type 0 where
  steps : List Step
  each : AllByRecursion (IsOverFrom from i) steps
  here : world_at (pair_from past pair steps) from ≡ world_at pair from
  there : IsThere past from i (pair_from past pair steps) m

-- Nothing changes.
over_still : (past : PairRun) (from : Side) (i : ℕ) (pair : PairWorld) (old new : Meaning) → IsThere past from i pair old → new ≡ old
    → ComesOver past from i pair new
over_still past from i pair old new at same =
    record { steps = []; each = tt; here = refl; there = subst (IsThere past from i pair) (sym same) at }

-- the run of the other side
abbrev other_run : PairRun → Side → List Event → WorldRun
other_run past from events = record {
  config = config_at past (other_side from);
  limits = past.limits (other_side from);
  replicas = past.replicas;
  events = events;
}

-- what is held here
abbrev held_here : PairRun → Side → ℕ → PairWorld → Meaning
held_here past from i pair = meaning_of_state (limited_at past from i) ((world_at pair from).now i)

-- One is taken.
over_taken : PassLaws → (past : PairRun) (from : Side) (i : ℕ) (pair : PairWorld) (old new : Meaning) (e : Entry) → i < past.replicas
    → IsThere past from i pair old → IsWellFormed e → IsEntryHeld (held_here past from i pair) e → HasTakenOffered old e new
    → ComesOver past from i pair new
over_taken laws past from i pair old new e inside at form has h =
    let over = over_for past pair from i e has in
    let run = other_run past from at.events in
    let w = world_at pair (other_side from) in
    let rules = rules_at past (other_side from) in
    let taken = subst (λ (m : Meaning). HasTakenOffered m e new) at.holds h in
    let after = take_happens laws run w i e new inside at.run form (subst IsTame at.holds at.tame) taken in
    record {
      steps = over.step ∷ [];
      each = (over.over, tt);
      here = over.here;
      there = record {
        events = at.events ++ event_of i e ∷ [];
        run = over.there ∙ ap (λ (v : World). happens rules v (event_of i e)) at.run
            ∙ sym (fold-append (happens rules) empty_world at.events (event_of i e ∷ []));
        holds = after ∙ ap (λ (v : World). meaning_of_state (limited_at past (other_side from) i) (v.now i)) (sym over.there);
        tame = tame_taken laws.sets old e new form at.tame h;
      };
    }

-- One line.
over_line : PassLaws → (past : PairRun) (from : Side) (i : ℕ) (pair : PairWorld) (old : Kept) (text : List ℕ) (new : Kept) (fate : Fate)
    → i < past.replicas → IsThere past from i pair old.meaning
    → ((e : Entry) → IsEntry Either text e → IsEntryHeld (held_here past from i pair) e) → OffersLine old text new fate
    → ComesOver past from i pair new.meaning
over_line laws past from i pair old text new Taken inside at own h =
    over_taken laws past from i pair old.meaning new.meaning h.entry inside at h.is.is (own h.entry h.is) h.offers.takes
over_line laws past from i pair old text new Held inside at own h = over_still past from i pair old.meaning new.meaning at h.offers.takes.0
over_line laws past from i pair old text new Unfit inside at own h = over_still past from i pair old.meaning new.meaning at h.offers.takes.0
over_line laws past from i pair old text new NoPlace inside at own h = over_still past from i pair old.meaning new.meaning at h.offers.takes.0
over_line laws past from i pair old text new Unread inside at own h =
    over_still past from i pair old.meaning new.meaning at (ap (λ (k : Kept). k.meaning) h.0)

-- First these, and then those.
over_then : (past : PairRun) (from : Side) (i : ℕ) (pair : PairWorld) (now new : Meaning) → (first : ComesOver past from i pair now)
    → ComesOver past from i (pair_from past pair first.steps) new → ComesOver past from i pair new
over_then past from i pair now new first later =
    let both = fold-append (steps_to past) pair first.steps later.steps in
    record {
      steps = first.steps ++ later.steps;
      each = all_append (IsOverFrom from i) first.steps later.steps first.each later.each;
      here = ap (λ (p : PairWorld). world_at p from) both ∙ later.here ∙ first.here;
      there = subst (λ (p : PairWorld). IsThere past from i p new) (sym both) later.there;
    }

-- All lines.
over_in_turn : PassLaws → (past : PairRun) (from : Side) (i : ℕ) (pair : PairWorld) (old : Kept) (texts : List (List ℕ)) (new : Kept) (fates : List Fate)
    → i < past.replicas → IsThere past from i pair old.meaning → ((e : Entry) → LinesSay texts e → IsEntryHeld (held_here past from i pair) e)
    → OffersInTurn old texts new fates → ComesOver past from i pair new.meaning
over_in_turn laws past from i pair old [] new [] inside at own h =
    over_still past from i pair old.meaning new.meaning at (ap (λ (k : Kept). k.meaning) h)
over_in_turn laws past from i pair old [] new (fate ∷ fates) inside at own h = absurd h
over_in_turn laws past from i pair old (text ∷ texts) new [] inside at own h = absurd h
over_in_turn laws past from i pair old (text ∷ texts) new (fate ∷ fates) inside at own h =
    let first = over_line laws past from i pair old text h.0 fate inside at (λ e is. own e (said_first text texts e is)) h.1 in
    over_then past from i pair h.0.meaning new.meaning first
    (over_in_turn laws past from i (pair_from past pair first.steps) h.0 texts new fates inside first.there
    (λ e says. subst (λ (w : World). IsEntryHeld (meaning_of_state (limited_at past from i) (w.now i)) e) (sym first.here)
    (own e (said_later text texts e says)))
    h.2)

-- ---- a call

-- The other side was offered these lines, or the first of them, and holds this now.
record IsBrought (old : Meaning) (texts : List (List ℕ)) (new : Option Meaning) : Type 0 where
  done : List (List ℕ)
  within : (e : Entry) → LinesSay done e → LinesSay texts e
  meaning : Meaning
  is : new ≡ Some meaning
  before : List ℕ
  after : List ℕ
  fates : List Fate
  each : OffersInTurn (as_kept old before) done (as_kept meaning after) fates

brought_all : (old : Meaning) (before : List ℕ) (texts : List (List ℕ)) (new : Option Meaning) (after : List ℕ) (offered : Offered)
    → IsOfferedTo (Some old) before texts new after offered → IsBrought old texts new
brought_all old before texts None after offered h = absurd h
brought_all old before texts (Some m) after offered h = record {
  done = texts;
  within = λ e says. says;
  meaning = m;
  is = refl;
  before = before;
  after = after;
  fates = h.0.fates;
  each = h.0.each;
}

brought_part : (old : Meaning) (before : List ℕ) (texts : List (List ℕ)) (new : Option Meaning) (after : List ℕ)
    → IsOfferedPart (Some old) before texts new after → IsBrought old texts new
brought_part old before texts None after h = absurd h
brought_part old before texts (Some m) after h = record {
  done = h.0.done;
  within = λ e says. record {
    form = says.form;
    line = subst (λ (ts : List (List ℕ)). Contains ts (entry_line e)) (sym h.0.lines)
        (Contains-append_left h.0.done (h.0.next ∷ h.0.later) (entry_line e) says.line);
  };
  meaning = m;
  is = refl;
  before = before;
  after = after;
  fates = h.0.fates;
  each = h.0.each;
}

-- What the replica holds on a side of a run is there by events.
there_before : (past : PairRun) (from : Side) (i : ℕ)
    → IsMeaning (meaning_of_state (limited_at past (other_side from) i) ((world_at (pair_after past) (other_side from)).now i))
    → IsThere past from i (pair_after past) (meaning_of_state (limited_at past (other_side from) i) ((world_at (pair_after past) (other_side from)).now i))
there_before past from i valid = record {
  events = (side_run past (other_side from)).events;
  run = each_side past (other_side from);
  holds = refl;
  tame = record { forms = valid.receipts; few = valid.few; few_records = valid.few_records };
}

-- The worlds after more steps.
pair_later : (past : PairRun) (steps : List Step) → pair_after (then_steps past steps) ≡ pair_from past (pair_after past) steps
pair_later past steps = fold-append (steps_to past) empty_pair past.steps steps

pass_next : PassLaws → (past : PairRun) (i : ℕ) (p : Passing) → PassesOwn past i Next p → p.new.next ≡ p.old.next
    → IsBrought (meaning_of_state (limited_at past Previous i) ((pair_after past).previous.now i)) p.texts p.new.previous → IsAfterSteps past i Next p.new
pass_next laws past i p own same b =
    let m = meaning_of_state (limited_at past Previous i) ((pair_after past).previous.now i) in
    let comes = over_in_turn laws past Next i (pair_after past) (as_kept m b.before) b.done (as_kept b.meaning b.after) b.fates own.inside
    (there_before past Next i (own.valid Previous m own.holds.previous))
    (λ e says. subst (λ (k : Meaning). IsEntryHeld k e) own.holds.next (own.own e (b.within e says))) b.each in
    let later = pair_later past comes.steps in
    record {
      steps = comes.steps;
      each = comes.each;
      holds = record {
        next = same ∙ own.holds.next ∙ ap (λ (w : World). meaning_of_state (limited_at past Next i) (w.now i)) (sym comes.here)
            ∙ ap (λ (q : PairWorld). meaning_of_state (limited_at past Next i) (q.next.now i)) (sym later);
        previous = b.is ∙ ap Some (comes.there.holds ∙ ap (λ (q : PairWorld). meaning_of_state (limited_at past Previous i) (q.previous.now i)) (sym later));
      };
    }

pass_previous : PassLaws → (past : PairRun) (i : ℕ) (p : Passing) → PassesOwn past i Previous p → p.new.previous ≡ p.old.previous
    → IsBrought (meaning_of_state (limited_at past Next i) ((pair_after past).next.now i)) p.texts (Some p.new.next) → IsAfterSteps past i Previous p.new
pass_previous laws past i p own same b =
    let m = meaning_of_state (limited_at past Next i) ((pair_after past).next.now i) in
    let comes = over_in_turn laws past Previous i (pair_after past) (as_kept m b.before) b.done (as_kept b.meaning b.after) b.fates own.inside
    (there_before past Previous i (own.valid Next m (ap Some own.holds.next)))
    (λ e says. subst (λ (o : Option Meaning). IsHeldOn o e) own.holds.previous (own.own e (b.within e says))) b.each in
    let later = pair_later past comes.steps in
    let new : p.new.next ≡ b.meaning = (let s : Some p.new.next ≡ Some b.meaning = b.is in cc) in
    record {
      steps = comes.steps;
      each = comes.each;
      holds = record {
        next = new ∙ comes.there.holds ∙ ap (λ (q : PairWorld). meaning_of_state (limited_at past Next i) (q.next.now i)) (sym later);
        previous = same ∙ own.holds.previous ∙ ap (λ (w : World). Some (meaning_of_state (limited_at past Previous i) (w.now i))) (sym comes.here)
            ∙ ap (λ (q : PairWorld). Some (meaning_of_state (limited_at past Previous i) (q.previous.now i))) (sym later);
      };
    }

-- The law `passes`.
pub passed_by_steps : PassLaws → (past : PairRun) (i : ℕ) (from : Side) (p : Passing) (offered : Offered) → PassesOwn past i from p
    → PassesToOther from p offered → IsAfterSteps past i from p.new
passed_by_steps laws past i Next p offered own h =
    pass_next laws past i p own h.0 (brought_all _ p.before p.texts p.new.previous p.after offered
    (subst (λ (o : Option Meaning). IsOfferedTo o p.before p.texts p.new.previous p.after offered) own.holds.previous h.1))
passed_by_steps laws past i Previous p offered own h =
    pass_previous laws past i p own h.0 (brought_all _ p.before p.texts (Some p.new.next) p.after offered
    (subst (λ (m : Meaning). IsOfferedTo (Some m) p.before p.texts (Some p.new.next) p.after offered) own.holds.next h.1))

-- The law `begins`.
pub begun_by_steps : PassLaws → (past : PairRun) (i : ℕ) (from : Side) (p : Passing) → PassesOwn past i from p → PassesPartToOther from p
    → IsAfterSteps past i from p.new
begun_by_steps laws past i Next p own h =
    pass_next laws past i p own h.0 (brought_part _ p.before p.texts p.new.previous p.after
    (subst (λ (o : Option Meaning). IsOfferedPart o p.before p.texts p.new.previous p.after) own.holds.previous h.1))
begun_by_steps laws past i Previous p own h =
    pass_previous laws past i p own h.0 (brought_part _ p.before p.texts (Some p.new.next) p.after
    (subst (λ (m : Meaning). IsOfferedPart (Some m) p.before p.texts (Some p.new.next) p.after) own.holds.next h.1))

-- The law `own`.
pub own_lines : (held : Option Meaning) → ((m : Meaning) → held ≡ Some m → IsMeaning m) → (e : Entry) → LinesSay (lines_in held) e → IsHeldOn held e
own_lines None valid e says = absurd (contains-none (entry_line e) says.line)
own_lines (Some m) valid e says = (held_law m (valid m refl) e).0 says
