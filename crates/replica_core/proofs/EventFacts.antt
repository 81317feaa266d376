-- What one event changes of what a replica holds and saved, and of the messages.
use Rattle.std.proofs.Common.{◌≡◌, ◌≢◌, ℕ, ◌+◌, ◌<◌, inl, inr, Bool, true, false, cond, ◌&&◌, nat_le, List, [], ◌∷◌}
use Rattle.std.proofs.Common.{◌++◌, arith, refl, sym, ap, ◌∙◌, subst, eq-eqb, ne_eqb, le-leb, append_assoc, append-nil}
use Rattle.std.specs.Prelude.{Contains, slice_get, Option, Some, None}
use Rattle.std.proofs.lemmas.Bool.{cases_eq, and_parts}
use Rattle.replica_core.specs.State.{State, joined, is_within_limits, first_of}
use Rattle.replica_core.specs.World.{Message, have_sent, give_sent, World, Rules, Effect, nothing, gains, sends, saves, restarts, where_so, sends_give}
use Rattle.replica_core.specs.World.{takes_whole, takes_part, effect_of, at_replica, gained, apply, happens, run_from, is_replica}
use Rattle.replica_core.specs.Convergence.{IsPartOf, Lacks}
use Rattle.replica_core.specs.declared.event.Event.{Event}
use Rattle.replica_core.specs.World.{sums_sent, marks_sent, sends_marks, without_records}
use Rattle.replica_core.specs.declared.event.Event.TheVariants.{Take, Revoke, Ask, Answer, Absorb, Part, Join, Save, Restart}
use Rattle.replica_core.specs.declared.event.Event.TheVariants.{AnswerReceipts, AskSums, AnswerSums}
use Rattle.replica_core.proofs.ContainsFacts.{contains-here, contains-later, get-kept}
use Rattle.replica_core.proofs.JoinLawFacts.{Laws}
use Rattle.fed_config.specs.declared.limits.Limits.{Limits}

-- A state is part of itself.
pub part-refl : (state : State) → IsPartOf state state
part-refl state = record { receipts = λ r c. c; distrusts = λ x c. c }

-- A part of a part is a part.
pub part-trans : (a b c : State) → IsPartOf a b → IsPartOf b c → IsPartOf a c
part-trans a b c p q = record { receipts = λ r h. q.receipts r (p.receipts r h); distrusts = λ x h. q.distrusts x (p.distrusts x h) }

-- What is held is part of what it is after a gain.
pub part-joined : (laws : Laws) (state gain : State) → IsPartOf state (joined state gain)
part-joined laws state gain = record {
  receipts = λ r c. laws.receipts.old gain.held state.held r c;
  distrusts = λ x c. laws.records.old gain.records state.records x c;
}

-- ---- one replica's place

-- The replica has the new state.
pub at-here : (i : ℕ) (state : State) (states : ℕ → State) → at_replica i state states i ≡ state
at-here i state states = ap (λ b. cond b state (states i)) (eq-eqb i i refl)

-- Each other replica has its old state.
pub at-other : (i k : ℕ) (state : State) (states : ℕ → State) → i ≢ k → at_replica k state states i ≡ states i
at-other i k state states d = ap (λ b. cond b state (states i)) (ne_eqb i k d)

-- If one replica's state grows, no replica's shrinks.
part-at : (i k : ℕ) (state : State) (states : ℕ → State) → IsPartOf (states k) state → IsPartOf (states i) (at_replica k state states i)
part-at i k state states p =
    elim (cases_eq i k) [
      | inl e ↦ subst (λ j. IsPartOf (states j) (at_replica k state states j)) (sym e) (subst (IsPartOf (states k)) (sym (at-here k state states)) p)
      | inr d ↦ subst (IsPartOf (states i)) (sym (at-other i k state states d)) (part-refl (states i))
    ]

-- If a replica gains, no replica's state shrinks, whether the gain is within the limits or not.
part-gained : (b : Bool) (w : World) (i k : ℕ) (state : State) → IsPartOf (w.now k) state → IsPartOf (w.now i) ((gained b w k state).now i)
part-gained true w i k state p = part-at i k state w.now p
part-gained false w i k state p = part-refl (w.now i)

-- What is so of every effect that the event can have
pub record Covers (rules : Rules) (event : Event) (P : Effect → Type 0) : Type 0 where
  pub idle : P nothing
  pub more : (k : ℕ) (gain : State) → is_replica rules k ≡ true → P (gains k gain)
  pub stated : (message : Message) → P (sends message)
  pub kept : (k : ℕ) → is_replica rules k ≡ true → event ≡ Save k → P (saves k)
  pub again : (k : ℕ) → is_replica rules k ≡ true → event ≡ Restart k → P (restarts k)

-- An event that depends on a test has its effect or none.
covered-where : (P : Effect → Type 0) (b : Bool) (effect : Effect) → P nothing → (b ≡ true → P effect) → P (where_so b effect)
covered-where P true effect n h = h refl
covered-where P false effect n h = n

-- The effects of an answer.
covered-sends_give : (P : Effect → Type 0) (state : State) (j k : ℕ) (found : Option Message) → P nothing
    → ((message : Message) → P (sends message)) → P (sends_give state j k found)
covered-sends_give P state j k None n h = n
covered-sends_give P state j k (Some (have_sent asker bucket ids)) n h = h _
covered-sends_give P state j k (Some (give_sent answerer place content)) n h = n
covered-sends_give P state j k (Some (sums_sent asker)) n h = n
covered-sends_give P state j k (Some (marks_sent answerer place)) n h = n

-- The effects of an answer to sums.
covered-sends_marks : (P : Effect → Type 0) (j k : ℕ) (found : Option Message) → P nothing
    → ((message : Message) → P (sends message)) → P (sends_marks j k found)
covered-sends_marks P j k None n h = n
covered-sends_marks P j k (Some (have_sent asker bucket ids)) n h = n
covered-sends_marks P j k (Some (give_sent answerer place content)) n h = n
covered-sends_marks P j k (Some (sums_sent asker)) n h = h _
covered-sends_marks P j k (Some (marks_sent answerer place)) n h = n

-- The effects of taking a whole answer.
covered-whole : (P : Effect → Type 0) (j : ℕ) (found : Option Message) → P nothing → ((gain : State) → P (gains j gain)) → P (takes_whole j found)
covered-whole P j None n h = n
covered-whole P j (Some (have_sent asker bucket ids)) n h = n
covered-whole P j (Some (give_sent answerer place content)) n h = h content
covered-whole P j (Some (sums_sent asker)) n h = n
covered-whole P j (Some (marks_sent answerer place)) n h = n

-- The effects of taking part of an answer.
covered-part : (P : Effect → Type 0) (j m : ℕ) (found : Option Message) → P nothing → ((gain : State) → P (gains j gain)) → P (takes_part j m found)
covered-part P j m None n h = n
covered-part P j m (Some (have_sent asker bucket ids)) n h = n
covered-part P j m (Some (give_sent answerer place content)) n h = h (first_of m content)
covered-part P j m (Some (sums_sent asker)) n h = n
covered-part P j m (Some (marks_sent answerer place)) n h = n

-- What is so of every effect that an event can have is so of the one that it has: so proofs go over
-- five kinds of effect and not over each kind of event.
pub covered : (rules : Rules) (w : World) (event : Event) (P : Effect → Type 0) → Covers rules event P → P (effect_of rules w event)
covered rules w (Take k r) P c =
    covered-where P (is_replica rules k && rules.fits r) _ c.idle (λ e. c.more k _ (and_parts (is_replica rules k) (rules.fits r) e).0)
covered rules w (Revoke k x) P c =
    covered-where P (is_replica rules k && rules.knows x.domain) _ c.idle (λ e. c.more k _ (and_parts (is_replica rules k) (rules.knows x.domain) e).0)
covered rules w (Ask k b) P c = covered-where P (is_replica rules k && nat_le b 255) _ c.idle (λ e. c.stated _)
covered rules w (Answer k n) P c = covered-where P (is_replica rules k) _ c.idle (λ e. covered-sends_give P (w.now k) k n (slice_get w.sent n) c.idle c.stated)
covered rules w (AnswerReceipts k n) P c =
    covered-where P (is_replica rules k) _ c.idle (λ e. covered-sends_give P (without_records (w.now k)) k n (slice_get w.sent n) c.idle c.stated)
covered rules w (AskSums k) P c = covered-where P (is_replica rules k) _ c.idle (λ e. c.stated _)
covered rules w (AnswerSums k n) P c = covered-where P (is_replica rules k) _ c.idle (λ e. covered-sends_marks P k n (slice_get w.sent n) c.idle c.stated)
covered rules w (Absorb k n) P c = covered-where P (is_replica rules k) _ c.idle (λ e. covered-whole P k (slice_get w.sent n) c.idle (λ gain. c.more k gain e))
covered rules w (Part k n m) P c = covered-where P (is_replica rules k) _ c.idle (λ e. covered-part P k m (slice_get w.sent n) c.idle (λ gain. c.more k gain e))
covered rules w (Join k j) P c =
    covered-where P (is_replica rules k && is_replica rules j) _ c.idle (λ e. c.more k (w.now j) (and_parts (is_replica rules k) (is_replica rules j) e).0)
covered rules w (Save k) P c = covered-where P (is_replica rules k) _ c.idle (λ e. c.kept k e refl)
covered rules w (Restart k) P c = covered-where P (is_replica rules k) _ c.idle (λ e. c.again k e refl)

-- No event but its own restart takes anything from a replica.
pub part-event : (laws : Laws) (rules : Rules) (w : World) (i : ℕ) (event : Event) → event ≢ Restart i → IsPartOf (w.now i) ((happens rules w event).now i)
part-event laws rules w i event d =
    covered rules w event (λ effect. IsPartOf (w.now i) ((apply rules.limits w effect).now i)) (record {
      idle = part-refl (w.now i);
      more = λ k gain e. part-gained (is_within_limits (rules.limits k) (joined (w.now k) gain)) w i k (joined (w.now k) gain)
          (part-joined laws (w.now k) gain);
      stated = λ message. part-refl (w.now i);
      kept = λ k e s. part-refl (w.now i);
      again = λ k e s. subst (IsPartOf (w.now i)) (sym (at-other i k (w.saved k) w.now (λ f. d (s ∙ ap Restart (sym f))))) (part-refl (w.now i));
    })

-- what a replica holds remains held while it doesn't restart
pub part-run : (laws : Laws) (rules : Rules) (i : ℕ) (events : List Event) (w : World) → Lacks events (Restart i)
    → IsPartOf (w.now i) ((run_from rules w events).now i)
part-run laws rules i [] w l = part-refl (w.now i)
part-run laws rules i (event ∷ events) w l =
    part-trans (w.now i) ((happens rules w event).now i) ((run_from rules (happens rules w event) events).now i)
    (part-event laws rules w i event (λ e. l (subst (Contains (event ∷ events)) e (contains-here event events))))
    (part-run laws rules i events (happens rules w event) (λ c. l (contains-later event events (Restart i) c)))

-- ---- messages remain

-- The case of an effect that sends nothing.
front-refl : (w : World) → (rest : List Message) × (w.sent ≡ w.sent ++ rest)
front-refl w = ([], sym (append-nil w.sent))

-- A gain sends nothing.
pub sent-gained : (b : Bool) (w : World) (k : ℕ) (state : State) → (gained b w k state).sent ≡ w.sent
sent-gained true w k state = refl
sent-gained false w k state = refl

-- No effect takes back a message.
sent-applied : (limits : ℕ → Limits) (w : World) (effect : Effect) → (rest : List Message) × ((apply limits w effect).sent ≡ w.sent ++ rest)
sent-applied limits w nothing = front-refl w
sent-applied limits w (gains k gain) =
    ([], sent-gained (is_within_limits (limits k) (joined (w.now k) gain)) w k (joined (w.now k) gain) ∙ sym (append-nil w.sent))
sent-applied limits w (sends message) = (message ∷ [], refl)
sent-applied limits w (saves k) = front-refl w
sent-applied limits w (restarts k) = front-refl w

-- No list of events takes back a message.
pub sent-run : (rules : Rules) (events : List Event) (w : World) → (rest : List Message) × ((run_from rules w events).sent ≡ w.sent ++ rest)
sent-run rules [] w = front-refl w
sent-run rules (event ∷ events) w =
    let first = sent-applied rules.limits w (effect_of rules w event) in
    let later = sent-run rules events (happens rules w event) in
    (first.0 ++ later.0, later.1 ∙ ap (λ s. s ++ later.0) first.1 ∙ append_assoc w.sent first.0 later.0)

-- So each message remains at its place.
pub sent-stays : (rules : Rules) (events : List Event) (w : World) (n : ℕ) (message : Message)
    → slice_get w.sent n ≡ Some message → slice_get (run_from rules w events).sent n ≡ Some message
sent-stays rules events w n message e =
    let rest = sent-run rules events w in
    ap (λ s. slice_get s n) rest.1 ∙ get-kept w.sent rest.0 n message e

-- ---- what was saved remains until the next save

-- A gain saves nothing.
saved-gained : (b : Bool) (w : World) (i k : ℕ) (state : State) → (gained b w k state).saved i ≡ w.saved i
saved-gained true w i k state = refl
saved-gained false w i k state = refl

-- No event but its own save changes what a replica saved.
saved-event : (rules : Rules) (w : World) (i : ℕ) (event : Event) → event ≢ Save i → (happens rules w event).saved i ≡ w.saved i
saved-event rules w i event d =
    covered rules w event (λ effect. (apply rules.limits w effect).saved i ≡ w.saved i) (record {
      idle = refl;
      more = λ k gain e. saved-gained (is_within_limits (rules.limits k) (joined (w.now k) gain)) w i k (joined (w.now k) gain);
      stated = λ message. refl;
      kept = λ k e s. at-other i k (w.now k) w.saved (λ f. d (s ∙ ap Save (sym f)));
      again = λ k e s. refl;
    })

-- What a replica saved remains until its next save.
pub saved-run : (rules : Rules) (i : ℕ) (events : List Event) (w : World) → Lacks events (Save i) → (run_from rules w events).saved i ≡ w.saved i
saved-run rules i [] w l = refl
saved-run rules i (event ∷ events) w l =
    saved-run rules i events (happens rules w event) (λ c. l (contains-later event events (Save i) c))
    ∙ saved-event rules w i event (λ e. l (subst (Contains (event ∷ events)) e (contains-here event events)))

-- ---- saves and restarts of a replica

-- A number below that of the replicas passes the world's test.
pub replica-true : (rules : Rules) (i : ℕ) → i < rules.replicas → is_replica rules i ≡ true
replica-true rules i l = le-leb (i + 1) rules.replicas (omega arith)

-- A save keeps what the replica holds.
pub saved-here : (rules : Rules) (i : ℕ) (w : World) → i < rules.replicas → (happens rules w (Save i)).saved i ≡ w.now i
saved-here rules i w l = ap (λ b. (apply rules.limits w (where_so b (saves i))).saved i) (replica-true rules i l) ∙ at-here i (w.now i) w.saved

-- A restart gives what the replica saved last.
pub restarted-here : (rules : Rules) (i : ℕ) (w : World) → i < rules.replicas → (happens rules w (Restart i)).now i ≡ w.saved i
restarted-here rules i w l = ap (λ b. (apply rules.limits w (where_so b (restarts i))).now i) (replica-true rules i l) ∙ at-here i (w.saved i) w.now
