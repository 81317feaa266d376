-- What is so of every list of events.
use Rattle.std.specs.Prelude.{◌≡◌, ◌≢◌, ℕ, ◌<◌, ◌≤◌, ◌⊎◌, ⊤, Bool, true, false, List, [], ◌∷◌}
use Rattle.std.specs.Prelude.{◌++◌, length, Contains, slice_get, Some}
use Rattle.std.specs.List.{AllByRecursion}
use Rattle.receipt_core.specs.declared.distrust.Distrust.{Distrust}
use Rattle.receipt_core.specs.Receipt.{Receipt, IsReceipt, IsDistrust, receipt_id_of}
use Rattle.replica_core.specs.State.{State, joined, is_within_limits, bucket_of_id}
use Rattle.replica_core.specs.State.{ids_held}
use Rattle.replica_core.specs.World.{World, Rules, give_sent, without_records, happens, run_from}
use Rattle.replica_core.specs.World.{WorldRun, rules_in, world_after, held_by, followed_by}
use Rattle.replica_core.specs.declared.event.Event.{Event}
use Rattle.replica_core.specs.declared.event.Event.TheVariants.{Take, Revoke, Ask, Answer, Absorb}
use Rattle.replica_core.specs.declared.event.Event.TheVariants.{Part, Join, Save, Restart}
use Rattle.replica_core.specs.declared.event.Event.TheVariants.{AnswerReceipts, AskSums, AnswerSums}

-- what is taken is a receipt, and what is revoked a record
abbrev pub IsEvent : Event → Type 0
IsEvent (Take i r) = IsReceipt r
IsEvent (Revoke i x) = IsDistrust x
IsEvent (Ask i b) = ⊤
IsEvent (Answer j k) = ⊤
IsEvent (AnswerReceipts j k) = ⊤
IsEvent (AskSums i) = ⊤
IsEvent (AnswerSums j k) = ⊤
IsEvent (Absorb i k) = ⊤
IsEvent (Part i k m) = ⊤
IsEvent (Join i j) = ⊤
IsEvent (Save i) = ⊤
IsEvent (Restart i) = ⊤

abbrev pub AreEvents : List Event → Type 0
AreEvents = AllByRecursion IsEvent

abbrev pub Lacks : List Event → Event → Type 0
Lacks events event = Contains events event → ⊥

-- ---- the origin of what is held

-- A replica took the receipt, and held it right after.
pub record WasTaken (past : WorldRun) (r : Receipt) : Type 0 where
  pub before : List Event
  pub replica : ℕ
  pub after : List Event
  pub inside : replica < past.replicas
  pub order : past.events ≡ before ++ Take replica r ∷ after
  pub held : Contains (held_by (record past { events = before ++ Take replica r ∷ [] })
      replica).held r

-- A replica began to distrust the key, and held the record right after.
pub record WasRevoked (past : WorldRun) (x : Distrust) : Type 0 where
  pub before : List Event
  pub replica : ℕ
  pub after : List Event
  pub inside : replica < past.replicas
  pub order : past.events ≡ before ++ Revoke replica x ∷ after
  pub held : Contains (held_by (record past { events = before ++ Revoke replica x ∷ [] })
      replica).records x

pub record ComesFrom (past : WorldRun) (state : State) : Type 0 where
  pub receipts : (r : Receipt) → Contains state.held r → WasTaken past r
  pub distrusts : (x : Distrust) → Contains state.records x → WasRevoked past x

-- ---- what an event brings

abbrev pub only_receipt : Receipt → State
only_receipt r = record { held = r ∷ []; records = [] }

abbrev pub only_record : Distrust → State
only_record x = record { held = []; records = x ∷ [] }

-- After the event the replica holds all this too, if it is not too much for it.
abbrev pub Gains : WorldRun → Event → ℕ → State → Type 0
Gains past event replica gain =
    is_within_limits ((rules_in past).limits replica) (joined (held_by past replica) gain) ≡ true
    → held_by (followed_by past (event ∷ [])) replica ≡ joined (held_by past replica) gain

-- the message at this place is an answer with this content
abbrev pub HasGive : WorldRun → ℕ → State → Type 0
HasGive past place content = (answerer have : ℕ)
    × (slice_get (world_after past).sent place ≡ Some (give_sent answerer have content))

-- all that the one holds the other holds too
pub record IsPartOf (state other : State) : Type 0 where
  pub receipts : (r : Receipt) → Contains state.held r → Contains other.held r
  pub distrusts : (x : Distrust) → Contains state.records x → Contains other.records x

-- ---- an exchange about one bucket

-- who asks whom, and about which bucket
pub record Inquiry : Type 0 where
  pub asker : ℕ
  pub answerer : ℕ
  pub bucket : ℕ

-- both are among this many replicas, and the bucket is a byte
pub record IsInquiry (replicas : ℕ) (q : Inquiry) : Type 0 where
  pub asker : q.asker < replicas
  pub answerer : q.answerer < replicas
  pub bucket : q.bucket ≤ 255

-- the answer with all records, or the one that leaves them out
abbrev pub answer_with : Bool → ℕ → ℕ → Event
answer_with true j k = Answer j k
answer_with false j k = AnswerReceipts j k

-- what such an answer is made from
abbrev pub shown_with : Bool → State → State
shown_with true state = state
shown_with false state = without_records state

-- The events have a have of the asker about the bucket, an answer of the answerer to it, with its
-- records or without, and the asker's taking of that answer. Any events may come before the have,
-- between have and answer, and between answer and taking.
pub record CourseOf (full : Bool) (q : Inquiry) (events : List Event) : Type 0 where
  pub before : List Event
  pub asked : List Event
  pub answered : List Event
  pub after : List Event
  pub have_place : ℕ
  pub give_place : ℕ
  pub order : events ≡ before
      ++ (Ask q.asker q.bucket ∷ asked
      ++ (answer_with full q.answerer have_place ∷ answered ++ (Absorb q.asker give_place ∷ after)))

-- the worlds at the have, at the answer and at the taking
abbrev pub at_have : {full : Bool} {q : Inquiry} {events : List Event} → Rules → World
    → CourseOf full q events → World
at_have rules start c = run_from rules start c.before

abbrev pub at_give : {full : Bool} {q : Inquiry} {events : List Event} → Rules → World
    → CourseOf full q events → World
at_give {q = q} rules start c = run_from rules
    (happens rules (at_have rules start c) (Ask q.asker q.bucket)) c.asked

abbrev pub at_taking : {full : Bool} {q : Inquiry} {events : List Event} → Rules → World
    → CourseOf full q events → World
at_taking {full = full} {q = q} rules start c = run_from rules
    (happens rules (at_give rules start c) (answer_with full q.answerer c.have_place)) c.answered

abbrev pub after_taking : {full : Bool} {q : Inquiry} {events : List Event} → Rules → World
    → CourseOf full q events → World
after_taking {q = q} rules start c = happens rules (at_taking rules start c)
    (Absorb q.asker c.give_place)

-- The answer is to that have, the taking is of that answer, whole, which is not too much for the
-- asker, and the asker doesn't restart in between.
pub record ExchangeOf (full : Bool) (rules : Rules) (start : World) (q : Inquiry)
    (events : List Event) : Type 0 where
  pub course : CourseOf full q events
  pub asked_at : course.have_place ≡ length (at_have rules start course).sent
  pub answered_at : course.give_place ≡ length (at_give rules start course).sent
  pub whole : (content : State)
      → slice_get (at_taking rules start course).sent course.give_place
      ≡ Some (give_sent q.answerer course.have_place content)
      → is_within_limits (rules.limits q.asker)
      (joined ((at_taking rules start course).now q.asker) content) ≡ true
  pub no_restart : Lacks course.asked (Restart q.asker)
  pub none_later : Lacks course.answered (Restart q.asker)

-- the answer has the records
abbrev pub Exchange : Rules → World → Inquiry → List Event → Type 0
Exchange = ExchangeOf true

-- the other has each of the bucket's receipts, or one with its id, and all records
pub record HasAll (bucket : ℕ) (given taken : State) : Type 0 where
  pub receipts : (r : Receipt) → Contains given.held r → bucket_of_id r ≡ bucket
      → (s : Receipt) × Contains taken.held s × (receipt_id_of s ≡ receipt_id_of r)
  pub distrusts : (x : Distrust) → Contains given.records x → Contains taken.records x

-- ---- a course that begins with sums

-- who asks whom
pub record Peers : Type 0 where
  pub asker : ℕ
  pub answerer : ℕ

-- both are among this many replicas
pub record ArePeers (replicas : ℕ) (p : Peers) : Type 0 where
  pub asker : p.asker < replicas
  pub answerer : p.answerer < replicas

abbrev pub about : Peers → ℕ → Inquiry
about p bucket = record { asker = p.asker; answerer = p.answerer; bucket = bucket }

-- The events have sums of the asker, and the answerer compares them with those of what it holds.
-- Any events may come before, between and after.
pub record Comparison (p : Peers) (events : List Event) : Type 0 where
  pub before : List Event
  pub asked : List Event
  pub after : List Event
  pub place : ℕ
  pub order : events ≡ before ++ (AskSums p.asker ∷ asked ++ (AnswerSums p.answerer place ∷ after))

-- the worlds when the sums are made, when they are compared, and after that
abbrev pub at_sums : {p : Peers} {events : List Event} → Rules → World → Comparison p events
    → World
at_sums rules start c = run_from rules start c.before

abbrev pub at_marks : {p : Peers} {events : List Event} → Rules → World → Comparison p events
    → World
at_marks {p = p} rules start c = run_from rules
    (happens rules (at_sums rules start c) (AskSums p.asker)) c.asked

abbrev pub after_marks : {p : Peers} {events : List Event} → Rules → World → Comparison p events
    → World
after_marks {p = p} rules start c = happens rules (at_marks rules start c)
    (AnswerSums p.answerer c.place)

-- what the asker held when it made its sums, and the other when it compared them
abbrev pub asker_held : {p : Peers} {events : List Event} → Rules → World → Comparison p events
    → State
asker_held {p = p} rules start c = (at_sums rules start c).now p.asker

abbrev pub answerer_held : {p : Peers} {events : List Event} → Rules → World
    → Comparison p events → State
answerer_held {p = p} rules start c = (at_marks rules start c).now p.answerer

-- For each part, the records and each bucket: both held the same then, or the asker takes an answer
-- about it that is asked for later. The records are in an answer about any bucket that has them.
-- The exchanges come in any order, and other events between them.
pub record SumsCourse (rules : Rules) (start : World) (p : Peers)
    (events : List Event) : Type 0 where
  pub compared : Comparison p events
  pub asked_at : compared.place ≡ length (at_sums rules start compared).sent
  pub records : ((asker_held rules start compared).records
      ≡ (answerer_held rules start compared).records)
      ⊎ ((b : ℕ) × (b ≤ 255) × Exchange rules (after_marks rules start compared) (about p b)
      compared.after)
  pub buckets : (b : ℕ) → b ≤ 255
      → (ids_held (asker_held rules start compared) b
      ≡ ids_held (answerer_held rules start compared) b)
      ⊎ ((full : Bool) × ExchangeOf full rules (after_marks rules start compared) (about p b)
      compared.after)

-- After the asker made its sums it does not restart, nor the other after it compared them.
pub record IsUninterrupted {p : Peers} {events : List Event}
    (c : Comparison p events) : Type 0 where
  pub before_marks : Lacks c.asked (Restart p.asker)
  pub after_them : Lacks c.after (Restart p.asker)
  pub other : Lacks c.after (Restart p.answerer)

-- ---- when all have the same

-- no receipt is taken and no key distrusted, nobody restarts, and what was sent before the place is
-- not taken
abbrev pub IsQuiet : ℕ → Event → Type 0
IsQuiet place (Ask i b) = ⊤
IsQuiet place (Answer j k) = ⊤
IsQuiet place (AnswerReceipts j k) = ⊤
IsQuiet place (AskSums i) = ⊤
IsQuiet place (AnswerSums j k) = ⊤
IsQuiet place (Absorb i k) = place ≤ k
IsQuiet place (Part i k m) = place ≤ k
IsQuiet place (Join i j) = ⊤
IsQuiet place (Save i) = ⊤
IsQuiet place _ = ⊥

-- The asker took the other's answers with all records about all buckets, or had a course by sums.
abbrev pub HasPulledFrom : Rules → World → Peers → List Event → Type 0
HasPulledFrom rules start p since = ((b : ℕ) → b ≤ 255 → Exchange rules start (about p b) since)
    ⊎ SumsCourse rules start p since

-- From a point on it is quiet, no two receipts that were held anywhere at that point have one id,
-- and each replica has pulled from each other one.
pub record Settles (rules : Rules) (start : World) (since : List Event) : Type 0 where
  pub quiet : (event : Event) → Contains since event → IsQuiet (length start.sent) event
  pub one_id : (i j : ℕ) (r s : Receipt) → Contains (start.now i).held r
      → Contains (start.now j).held s → receipt_id_of r ≡ receipt_id_of s → r ≡ s
  pub pulled : (p : Peers) → ArePeers rules.replicas p → p.asker ≢ p.answerer
      → HasPulledFrom rules start p since
