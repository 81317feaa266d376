-- Worked proofs that replicas settle: of two, one takes a receipt, and then each has the other's
-- whole answer about every bucket, or one session each that begins with sums.
use Rattle.std.proofs.Common.{◌≡◌, ◌≢◌, ℕ, zero, suc, ◌+◌, ◌*◌, ◌<◌, ◌≤◌, ◌⊎◌, inl, inr, Bool, true, false, cond, ◌&&◌, nat_le, List, [], ◌∷◌, ◌++◌}
use Rattle.std.proofs.Common.{length, map, ne_eqb, length-append, append_assoc, append-nil, arith, refl, sym, ap, ap₂, ◌∙◌, subst, le-leb}
use Rattle.std.specs.Prelude.{Contains, filter, slice_get, Option, Some, None, ⊤}
use Rattle.std.specs.List.{AllByRecursion}
use Rattle.std.specs.List.Sorted.{IsStrictlySortedBy}
use Rattle.std.specs.Cmp.{tied_itself}
use Rattle.std.specs.declared.cmp.Ordering.TheVariants.{Less, Equal}
use Rattle.std.proofs.lemmas.Bool.{cases_eq, and_from}
use Rattle.std.proofs.lemmas.List.Sums.{fold-append}
use Rattle.fed_config.specs.Configuration.{Configuration}
use Rattle.receipt_core.specs.declared.distrust.Distrust.{Distrust}
use Rattle.receipt_core.specs.Receipt.{Receipt, IsReceipt, receipt_cmp, receipt_id_of}
use Rattle.receipt_core.specs.Rising.{with_items}
use Rattle.receipt_core.specs.Order.{receipt_total}
use Rattle.receipt_core.specs.Acceptance.{IsFitting}
use Rattle.replica_core.specs.State.{State, joined, limits_of, is_within_limits, ids_named, ids_held, id_cmp, bucket_of_id, is_of_bucket}
use Rattle.replica_core.specs.World.{Message, have_sent, give_sent, sums_sent, marks_sent, sends_marks}
use Rattle.replica_core.specs.World.{World, empty_world, Rules, Effect, sends, gains, where_so, takes_whole}
use Rattle.replica_core.specs.World.{apply, happens, run_from, is_replica}
use Rattle.replica_core.specs.World.{WorldRun, rules_in, config_in, world_after, held_by, followed_by}
use Rattle.replica_core.specs.Convergence.{Inquiry, IsInquiry, Exchange, ExchangeOf, answer_with, shown_with, Settles, IsQuiet, only_receipt}
use Rattle.replica_core.specs.Convergence.{Peers, ArePeers, about}
use Rattle.replica_core.specs.declared.event.Event.{Event}
use Rattle.replica_core.specs.declared.event.Event.TheVariants.{Take, Ask, Absorb, Restart, AskSums, AnswerSums}
use Rattle.replica_core.proofs.ContainsFacts.{contains-here, contains-later, contains-none, each-from, get-new}
use Rattle.replica_core.proofs.RisingListFacts.{all_append, all_front, rising_head}
use Rattle.replica_core.proofs.JoinLawFacts.{Keeps, keeps-joined}
use Rattle.replica_core.proofs.WorldJoins.{joins}
use Rattle.replica_core.proofs.KeptFacts.{IsKept, kept-event}
use Rattle.replica_core.proofs.EventFacts.{replica-true, sent-gained, part-run}
use Rattle.replica_core.proofs.StateFacts.{IsTidy, Throughout, throughout-event, tidy-kept, tidy-empty}
use Rattle.replica_core.proofs.ExchangeFacts.{with_message, content_of, asked-here, answered-with}
use Rattle.replica_core.proofs.AgreementFacts.{quiet-admits_all}
use Rattle.replica_core.proofs.Provenance.{empty-kept}
use Rattle.replica_core.proofs.EffectFacts.{takes-held}
use Rattle.replica_core.proofs.WorldLawFacts.{agreed}
use Rattle.fed_config.specs.declared.limits.Limits.{Limits}
use Rattle.receipt_core.specs.Limits.{receipt_limit, record_limit}
use Rattle.receipt_core.proofs.LimitFacts.{receipt_limit-least}
use Rattle.closure_core.specs.Alike.{with_limits}

-- ---- the events

-- who asks whom about which bucket, after this many messages
abbrev turn_with : (full : Bool) (i j b place : ℕ) → List Event
turn_with full i j b place = Ask i b ∷ answer_with full j place ∷ Absorb i (place + 1) ∷ []

abbrev turn : (i j b place : ℕ) → List Event
turn = turn_with true

-- both ask each other about a bucket
abbrev round : ℕ → List Event
round k = turn 0 1 k (4 * k) ++ turn 1 0 k (4 * k + 2)

-- all about the first this many buckets
rounds : ℕ → List Event
rounds zero = []
rounds (suc k) = rounds k ++ round k

-- No event of a round takes a receipt, distrusts a key or restarts.
quiet-round : (k : ℕ) → AllByRecursion (IsQuiet 0) (round k)
quiet-round k = (tt, (tt, (omega arith, (tt, (tt, (omega arith, tt))))))

-- Nor is an answer of either kind such an event.
quiet-answer : (full : Bool) (j k : ℕ) → IsQuiet 0 (answer_with full j k)
quiet-answer true j k = tt
quiet-answer false j k = tt

-- Nor does one of all rounds.
quiet-rounds : (k : ℕ) → AllByRecursion (IsQuiet 0) (rounds k)
unfolding rounds
quiet-rounds zero = tt
quiet-rounds (suc k) = all_append (IsQuiet 0) (rounds k) (round k) (quiet-rounds k) (quiet-round k)

-- each round is among all
round-among : (k b : ℕ) → b < k → (rest : List Event) × (rounds k ≡ rounds b ++ (round b ++ rest))
unfolding rounds
round-among zero b l = absurd (omega (arith, l))
round-among (suc k) b l =
    elim (cases_eq b k) [
      | inl e ↦ ([], ap (λ n. rounds n ++ round n) (sym e) ∙ ap (λ (t : List Event). rounds b ++ t) (sym (append-nil (round b))))
      | inr d ↦
          let found = round-among k b (omega (arith, l, d)) in (
            found.0 ++ round k,
            ap (λ (t : List Event). t ++ round k) found.1
                ∙ append_assoc (rounds b) (round b ++ found.0) (round k)
                ∙ ap (λ (t : List Event). rounds b ++ t) (append_assoc (round b) found.0 (round k)),
          )
    ]

-- ---- how many messages are sent

-- An effect that sends nothing sends nothing if it does not happen either.
where-sent : (b : Bool) (limits : ℕ → Limits) (w : World) (effect : Effect) → (apply limits w effect).sent ≡ w.sent
    → (apply limits w (where_so b effect)).sent ≡ w.sent
where-sent true limits w effect e = e
where-sent false limits w effect e = refl

-- A gain sends nothing.
gains-sent : (limits : ℕ → Limits) (w : World) (i : ℕ) (gain : State) → (apply limits w (gains i gain)).sent ≡ w.sent
gains-sent limits w i gain = sent-gained (is_within_limits (limits i) (joined (w.now i) gain)) w i (joined (w.now i) gain)

-- Nor does the taking of an answer.
whole-sent : (limits : ℕ → Limits) (w : World) (i : ℕ) (found : Option Message) → (apply limits w (takes_whole i found)).sent ≡ w.sent
whole-sent limits w i None = refl
whole-sent limits w i (Some (have_sent asker bucket ids)) = refl
whole-sent limits w i (Some (give_sent answerer place content)) = gains-sent limits w i content
whole-sent limits w i (Some (sums_sent asker)) = refl
whole-sent limits w i (Some (marks_sent answerer place)) = refl

-- A have is one message more.
ask-sends : (rules : Rules) (w : World) (i b : ℕ) → i < rules.replicas → b ≤ 255 → length (happens rules w (Ask i b)).sent ≡ length w.sent + 1
ask-sends rules w i b l m =
    let q = have_sent i b (ids_named (w.now i) b) in
    ap (λ t. length (apply rules.limits w (where_so t (sends q))).sent)
    (and_from (is_replica rules i) (nat_le b 255) (replica-true rules i l) (le-leb b 255 m))
    ∙ length-append w.sent (q ∷ [])

-- So is an answer.
answer-sends : (full : Bool) (rules : Rules) (w : World) (i j b k : ℕ) (ids : List (List ℕ)) → j < rules.replicas
    → slice_get w.sent k ≡ Some (have_sent i b ids) → length (happens rules w (answer_with full j k)).sent ≡ length w.sent + 1
answer-sends full rules w i j b k ids l e =
    ap (λ (v : World). length v.sent) (answered-with full rules w i j b k ids l e)
    ∙ length-append w.sent (give_sent j k (content_of (shown_with full (w.now j)) b ids) ∷ [])

-- A have, its answer and the taking of it are two messages more.
turn-sends : (full : Bool) (rules : Rules) (w : World) (i j b place : ℕ) → i < rules.replicas → j < rules.replicas → b ≤ 255
    → length w.sent ≡ place → length (run_from rules w (turn_with full i j b place)).sent ≡ place + 2
turn-sends full rules w i j b place l m n size =
    let v = happens rules w (Ask i b) in
    let u = happens rules v (answer_with full j place) in
    let asked = ask-sends rules w i b l n in
    let there : slice_get v.sent place ≡ Some (have_sent i b (ids_named (w.now i) b)) =
    subst (λ k. slice_get v.sent k ≡ Some (have_sent i b (ids_named (w.now i) b))) size (asked-here rules w i b l n) in
    let answered : length u.sent ≡ length v.sent + 1 = answer-sends full rules v i j b place (ids_named (w.now i) b) m there in
    let taken : length (happens rules u (Absorb i (place + 1))).sent ≡ length u.sent =
    ap length (where-sent (is_replica rules i) rules.limits u (takes_whole i (slice_get u.sent (place + 1)))
    (whole-sent rules.limits u i (slice_get u.sent (place + 1)))) in
    omega (arith, asked, answered, taken, size)

-- A round is four.
round-sends : (rules : Rules) (w : World) (k : ℕ) → 2 ≤ rules.replicas → k ≤ 255 → length w.sent ≡ 4 * k → length (run_from rules w (round k)).sent ≡ 4 * k + 4
round-sends rules w k two few size =
    let first = turn-sends true rules w 0 1 k (4 * k) (omega (arith, two)) (omega (arith, two)) few size in
    let v = run_from rules w (turn 0 1 k (4 * k)) in
    let second = turn-sends true rules v 1 0 k (4 * k + 2) (omega (arith, two)) (omega (arith, two)) few first in
    second ∙ omega arith

-- This many rounds send four times that number of messages.
rounds-sends : (rules : Rules) (w : World) (k : ℕ) → 2 ≤ rules.replicas → k ≤ 256 → length w.sent ≡ 0 → length (run_from rules w (rounds k)).sent ≡ 4 * k
unfolding rounds
rounds-sends rules w zero two few none = none
rounds-sends rules w (suc k) two few none =
    let before = rounds-sends rules w k two (omega (arith, few)) none in
    ap (λ (v : World). length v.sent) (fold-append (happens rules) w (rounds k) (round k))
    ∙ round-sends rules (run_from rules w (rounds k)) k two (omega (arith, few)) before
    ∙ omega arith

-- ---- what is held never goes beyond one receipt

-- a sorted list of one receipt, however often, has it once at most
one-rising : (a : Receipt) (rs : List Receipt) → IsStrictlySortedBy receipt_cmp rs → ((r : Receipt) → Contains rs r → r ≡ a) → length rs ≤ 1
one-rising a [] rising same = omega arith
one-rising a (r ∷ []) rising same = omega arith
one-rising a (r ∷ s ∷ rs) rising same =
    let less : receipt_cmp r s ≡ Less = (rising_head receipt_cmp r (s ∷ rs) rising).0 in
    let both : r ≡ s = same r (contains-here r (s ∷ rs)) ∙ sym (same s (contains-later r (s ∷ rs) s (contains-here s rs))) in
    let tied : receipt_cmp r s ≡ Equal = ap (receipt_cmp r) (sym both) ∙ tied_itself receipt_total r in
    absurd (cc)

-- A list of records that contains nothing is empty.
none-in : (xs : List Distrust) → ((x : Distrust) → Contains xs x → ⊥) → length xs ≡ 0
none-in [] none = refl
none-in (x ∷ xs) none = absurd (none x (contains-here x xs))

-- A list without length is empty.
empty-is : {X : Type 0} (xs : List X) → length xs ≡ 0 → xs ≡ []
empty-is [] e = refl
empty-is (x ∷ xs) e = absurd (omega (arith, e))

-- all that is held, saved and sent is this one receipt, in sorted lists
record IsOnly (limits : ℕ → Limits) (a : Receipt) (w : World) : Type 0 where
  kept : IsKept (λ r. r ≡ a) (λ x. ⊥) 0 ⊤ w
  tidy : Throughout (λ i state. IsTidy (limits i) state) w
  one : (i : ℕ) → 1 ≤ (limits i).receipts

-- A quiet event brings no other receipt.
only-event : (rules : Rules) (a : Receipt) (w : World) (event : Event) → IsQuiet 0 event → IsOnly rules.limits a w
    → IsOnly rules.limits a (happens rules w event)
only-event rules a w event q h = record {
  kept = kept-event joins (λ r. r ≡ a) (λ x. ⊥) 0 ⊤ rules w event h.kept (quiet-admits_all rules (λ r. r ≡ a) (λ x. ⊥) 0 event q);
  tidy = throughout-event rules (λ i state. IsTidy (rules.limits i) state) (tidy-kept joins rules) w event h.tidy;
  one = h.one;
}

-- Nor do quiet events one after another.
only-run : (rules : Rules) (a : Receipt) (events : List Event) (w : World) → AllByRecursion (IsQuiet 0) events → IsOnly rules.limits a w
    → IsOnly rules.limits a (run_from rules w events)
only-run rules a [] w q h = h
only-run rules a (event ∷ events) w q h = only-run rules a events (happens rules w event) q.1 (only-event rules a w event q.0 h)

-- so no gain is too much
only-within : (limits : ℕ → Limits) (a : Receipt) (w : World) (i : ℕ) (content : State) → IsOnly limits a w → Keeps (λ r. r ≡ a) (λ x. ⊥) content
    → is_within_limits (limits i) (joined (w.now i) content) ≡ true
only-within limits a w i content h c =
    let all = keeps-joined joins (λ r. r ≡ a) (λ x. ⊥) (w.now i) content (h.kept.now i) c in
    let state = joined (w.now i) content in
    let one = one-rising a state.held (joins.receipts.rising content.held (w.now i).held (h.tidy.now i).rising) all.receipts in
    let none = none-in state.records all.records in
    let most = h.one i in
    and_from (nat_le (length state.held) (limits i).receipts) (nat_le (length state.records) (limits i).records)
    (le-leb (length state.held) (limits i).receipts (omega (arith, one, most))) (le-leb (length state.records) (limits i).records (omega (arith, none)))

-- ---- the exchanges

-- a turn is an exchange, whatever came before it and comes after it
turn-exchanges : (full : Bool) (rules : Rules) (a : Receipt) (w : World) (q : Inquiry) (events before after : List Event) (place : ℕ)
    → IsInquiry rules.replicas q → IsOnly rules.limits a w → AllByRecursion (IsQuiet 0) events
    → events ≡ before ++ (turn_with full q.asker q.answerer q.bucket place ++ after)
    → length (run_from rules w before).sent ≡ place → ExchangeOf full rules w q events
turn-exchanges full rules a w q events before after place is h quiet order size =
    let v = run_from rules w before in
    let reply = answer_with full q.answerer place in
    let early = all_front (IsQuiet 0) before (turn_with full q.asker q.answerer q.bucket place ++ after) (subst (AllByRecursion (IsQuiet 0)) order quiet) in
    let asking = only-event rules a v (Ask q.asker q.bucket) tt (only-run rules a before w early h) in
    let taking = only-event rules a (happens rules v (Ask q.asker q.bucket)) reply (quiet-answer full q.answerer place) asking in
    let u = happens rules (happens rules v (Ask q.asker q.bucket)) reply in
    record {
      course = record {
        before = before;
        asked = [];
        answered = [];
        after = after;
        have_place = place;
        give_place = place + 1;
        order = order;
      };
      asked_at = sym size;
      answered_at = ap (λ k. k + 1) (sym size) ∙ sym (ask-sends rules v q.asker q.bucket is.asker is.bucket);
      whole = λ content e. only-within rules.limits a u q.asker content taking (taking.kept.sent (place + 1) (give_sent q.answerer place content)
          (omega arith) e);
      no_restart = λ c. contains-none (Restart q.asker) c;
      none_later = λ c. contains-none (Restart q.asker) c;
    }

-- the first turn of a round
first-exchanges : (rules : Rules) (a : Receipt) (w : World) (q : Inquiry) (k : ℕ) → 2 ≤ rules.replicas → k ≡ 256 → IsInquiry rules.replicas q
    → q.asker ≡ 0 → q.answerer ≡ 1 → IsOnly rules.limits a w → length w.sent ≡ 0 → Exchange rules w q (rounds k)
first-exchanges rules a w q k two all is zero-asks one-answers h none =
    let b = q.bucket in
    let small = is.bucket in
    let found = round-among k b (omega (arith, all, small)) in
    let after = turn 1 0 b (4 * b + 2) ++ found.0 in
    turn-exchanges true rules a w q (rounds k) (rounds b) after (4 * b) is h (quiet-rounds k)
    (found.1 ∙ ap₂ (λ i j. rounds b ++ (turn i j b (4 * b) ++ after)) (sym zero-asks) (sym one-answers))
    (rounds-sends rules w b two (omega (arith, small)) none)

-- and the second one
second-exchanges : (rules : Rules) (a : Receipt) (w : World) (q : Inquiry) (k : ℕ) → 2 ≤ rules.replicas → k ≡ 256 → IsInquiry rules.replicas q
    → q.asker ≡ 1 → q.answerer ≡ 0 → IsOnly rules.limits a w → length w.sent ≡ 0 → Exchange rules w q (rounds k)
second-exchanges rules a w q k two all is one-asks zero-answers h none =
    let b = q.bucket in
    let small = is.bucket in
    let found = round-among k b (omega (arith, all, small)) in
    let first = turn 0 1 b (4 * b) in
    turn-exchanges true rules a w q (rounds k) (rounds b ++ first) found.0 (4 * b + 2) is h (quiet-rounds k)
    (found.1 ∙ sym (append_assoc (rounds b) first (turn 1 0 b (4 * b + 2) ++ found.0))
    ∙ ap₂ (λ i j. (rounds b ++ first) ++ (turn i j b (4 * b + 2) ++ found.0)) (sym one-asks) (sym zero-answers))
    (ap (λ (v : World). length v.sent) (fold-append (happens rules) w (rounds b) first)
    ∙ turn-sends true rules (run_from rules w (rounds b)) 0 1 b (4 * b) (omega (arith, two)) (omega (arith, two)) small
    (rounds-sends rules w b two (omega (arith, small)) none))

-- ---- they settle

-- two replicas, each with limits of its own, of which the first was given a receipt
abbrev one_given : Configuration → (ℕ → Limits) → Receipt → WorldRun
one_given config limits a = record { config = config; limits = limits; replicas = 2; events = Take 0 a ∷ [] }

-- After the first event only the given receipt is anywhere.
only-given : (config : Configuration) (limits : ℕ → Limits) (a : Receipt)
    → IsOnly (rules_in (one_given config limits a)).limits a (world_after (one_given config limits a))
only-given config limits a = record {
  kept = kept-event joins (λ r. r ≡ a) (λ x. ⊥) 0 ⊤ (rules_in (one_given config limits a)) empty_world (Take 0 a)
      (empty-kept (λ r. r ≡ a) (λ x. ⊥) 0 ⊤) (λ i f. refl);
  tidy = throughout-event (rules_in (one_given config limits a)) (λ i state. IsTidy ((rules_in (one_given config limits a)).limits i) state)
      (tidy-kept joins (rules_in (one_given config limits a)))
      empty_world (Take 0 a) (tidy-empty (rules_in (one_given config limits a)).limits);
  one = λ i. receipt_limit-least (with_limits config (limits i));
}

-- No message was sent then.
none-sent : (config : Configuration) (limits : ℕ → Limits) (a : Receipt) → length (world_after (one_given config limits a)).sent ≡ 0
none-sent config limits a =
    let rules = rules_in (one_given config limits a) in
    ap length (where-sent (is_replica rules 0 && rules.fits a) rules.limits empty_world (gains 0 (only_receipt a))
    (gains-sent rules.limits empty_world 0 (only_receipt a)))

-- Among two replicas the first asks the second, or the second the first.
both-ways : (p : Peers) → ArePeers 2 p → p.asker ≢ p.answerer
    → ((p.asker ≡ 0) × (p.answerer ≡ 1)) ⊎ ((p.asker ≡ 1) × (p.answerer ≡ 0))
both-ways p are apart =
    let asker = are.asker in
    let answerer = are.answerer in
    elim (cases_eq p.asker 0) [
      | inl z ↦ inl (z, elim (cases_eq p.answerer 1) [ inl o ↦ o | inr d ↦ absurd (apart (z ∙ omega (arith, answerer, d))) ])
      | inr n ↦ inr (
        omega (arith, asker, n),
        elim (cases_eq p.answerer 0) [ inl o ↦ o | inr d ↦ absurd (apart (omega (arith, asker, answerer, n, d))) ],
      )
    ]

-- All rounds are what it takes to settle.
settles : (config : Configuration) (limits : ℕ → Limits) (a : Receipt) (k : ℕ) → k ≡ 256
    → Settles (rules_in (one_given config limits a)) (world_after (one_given config limits a)) (rounds k)
settles config limits a k all =
    let rules = rules_in (one_given config limits a) in
    let w = world_after (one_given config limits a) in
    let only = only-given config limits a in
    let none = none-sent config limits a in
    record {
      quiet = λ event c. subst (λ place. IsQuiet place event) (sym none) (each-from (IsQuiet 0) (rounds k) (quiet-rounds k) event c);
      one_id = λ i j r s c d e. (only.kept.now i).receipts r c ∙ sym ((only.kept.now j).receipts s d);
      pulled = λ p are apart. inl (λ b small.
          let is : IsInquiry 2 (about p b) = record { asker = are.asker; answerer = are.answerer; bucket = small } in
          elim (both-ways p are apart) [
            | inl d ↦ first-exchanges rules a w (about p b) k (omega arith) all is d.0 d.1 only none
            | inr d ↦ second-exchanges rules a w (about p b) k (omega arith) all is d.0 d.1 only none
          ]);
    }

-- So the second holds the receipt in the end, of any events by which both settle.
given-held : (config : Configuration) (limits : ℕ → Limits) (a : Receipt) (since : List Event) → IsReceipt a → IsFitting config a
    → AllByRecursion (IsQuiet 0) since → Settles (rules_in (one_given config limits a)) (world_after (one_given config limits a)) since
    → Contains (held_by (followed_by (one_given config limits a) since) 1).held a
given-held config limits a since form fits quiet settled =
    let past = one_given config limits a in
    let rules = rules_in past in
    let own = config_in past 0 in
    let one : is_within_limits (limits_of own) (only_receipt a) ≡ true =
    and_from (nat_le 1 (receipt_limit own)) (nat_le 0 (record_limit own))
    (le-leb 1 (receipt_limit own) (receipt_limit-least own)) (le-leb 0 (record_limit own) (omega arith)) in
    let taken : held_by past 0 ≡ only_receipt a = takes-held (record past { events = [] }) 0 a (omega arith) fits one in
    let here : Contains (held_by past 0).held a = subst (λ (s : State). Contains s.held a) (sym taken) (contains-here a []) in
    let stays = (part-run joins rules 0 since (world_after past) (λ c. each-from (IsQuiet 0) since quiet (Restart 0) c)).receipts a here in
    let kept : Contains (held_by (followed_by past since) 0).held a =
    subst (λ (w : World). Contains (w.now 0).held a) (sym (fold-append (happens rules) empty_world past.events since)) stays in
    subst (λ (s : State). Contains s.held a) (agreed joins past since 0 1 (form, tt) (omega arith) (omega arith) settled) kept

-- After all rounds the second holds the receipt.
settled : (config : Configuration) (limits : ℕ → Limits) (a : Receipt) → IsReceipt a → IsFitting config a → (k : ℕ) → k ≡ 256
    → Contains (held_by (followed_by (one_given config limits a) (rounds k)) 1).held a
settled config limits a form fits k all = given-held config limits a (rounds k) form fits (quiet-rounds k) (settles config limits a k all)

-- ---- sessions that begin with sums

-- One asks for sums, and then about one bucket, after this many messages. The answer leaves the
-- records out.
abbrev session : (i j b place : ℕ) → List Event
session i j b place = AskSums i ∷ AnswerSums j place ∷ turn_with false i j b (place + 2)

-- both have such a session about one bucket
abbrev sessions : ℕ → List Event
sessions b = session 0 1 b 0 ++ session 1 0 b 4

-- The sums are at their place.
sums-here : (rules : Rules) (w : World) (i : ℕ) → i < rules.replicas → happens rules w (AskSums i) ≡ with_message w (sums_sent i)
sums-here rules w i l = ap (λ t. apply rules.limits w (where_so t (sends (sums_sent i)))) (replica-true rules i l)

-- The marks are a message more.
marks-here : (rules : Rules) (w : World) (i j k : ℕ) → j < rules.replicas → slice_get w.sent k ≡ Some (sums_sent i)
    → happens rules w (AnswerSums j k) ≡ with_message w (marks_sent j k)
marks-here rules w i j k l e =
    ap (λ t. apply rules.limits w (where_so t (sends_marks j k (slice_get w.sent k)))) (replica-true rules j l)
    ∙ ap (λ (f : Option Message). apply rules.limits w (sends_marks j k f)) e

-- Sums and their marks are two messages.
compared-sends : (rules : Rules) (w : World) (i j place : ℕ) → i < rules.replicas → j < rules.replicas → length w.sent ≡ place
    → length (run_from rules w (AskSums i ∷ AnswerSums j place ∷ [])).sent ≡ place + 2
compared-sends rules w i j place l m size =
    let v = with_message w (sums_sent i) in
    let there : slice_get v.sent place ≡ Some (sums_sent i) =
    subst (λ k. slice_get v.sent k ≡ Some (sums_sent i)) size (get-new w.sent (sums_sent i)) in
    let one = length-append w.sent (sums_sent i ∷ []) in
    let two = length-append v.sent (marks_sent j place ∷ []) in
    ap (λ (u : World). length (happens rules u (AnswerSums j place)).sent) (sums-here rules w i l)
    ∙ ap (λ (u : World). length u.sent) (marks-here rules v i j place m there)
    ∙ omega (arith, one, two, size)

-- A filter that nothing passes keeps nothing.
filter-none : {X : Type 0} (p : X → Bool) (xs : List X) → ((x : X) → Contains xs x → p x ≡ false) → filter p xs ≡ []
filter-none p [] none = refl
filter-none p (x ∷ xs) none =
    ap (λ t. cond t (x ∷ filter p xs) (filter p xs)) (none x (contains-here x xs))
    ∙ filter-none p xs (λ y c. none y (contains-later x xs y c))

-- Who holds nothing but one receipt has no ids of another bucket.
no-ids : (a : Receipt) (state : State) (b : ℕ) → Keeps (λ r. r ≡ a) (λ x. ⊥) state → b ≢ bucket_of_id a → ids_held state b ≡ []
no-ids a state b h apart =
    ap (λ rs. with_items id_cmp (map receipt_id_of rs) [])
    (filter-none (is_of_bucket b) state.held (λ r c.
    ne_eqb (bucket_of_id r) b (λ e. apart (sym e ∙ ap bucket_of_id (h.receipts r c)))))

-- And it has no records.
no-distrusts : (a : Receipt) (state : State) → Keeps (λ r. r ≡ a) (λ x. ⊥) state → state.records ≡ []
no-distrusts a state h = empty-is state.records (none-in state.records h.records)
