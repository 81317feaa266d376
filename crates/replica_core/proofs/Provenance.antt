-- What is held or saved was taken, or distrusted, by an event that took effect.
use Rattle.std.proofs.Common.{◌≡◌, ℕ, ◌+◌, ◌<◌, ◌≤◌, true, ◌&&◌, List, [], ◌∷◌, ◌++◌, append_assoc, arith, refl, sym, ◌∙◌, subst, leb-true}
use Rattle.std.specs.Prelude.{Contains, None, Some, ⊤}
use Rattle.std.proofs.lemmas.Bool.{and_parts}
use Rattle.std.proofs.lemmas.List.Sums.{fold-append}
use Rattle.receipt_core.specs.declared.distrust.Distrust.{Distrust}
use Rattle.receipt_core.specs.Receipt.{Receipt}
use Rattle.replica_core.specs.State.{joined, is_within_limits}
use Rattle.replica_core.specs.World.{World, empty_world, Rules, gains, where_so, apply, happens, run_from, run, is_replica}
use Rattle.replica_core.specs.World.{WorldRun, rules_in, world_after, held_by, saved_by}
use Rattle.replica_core.specs.Convergence.{WasTaken, WasRevoked, ComesFrom, only_receipt, only_record}
use Rattle.replica_core.specs.declared.event.Event.{Event}
use Rattle.replica_core.specs.declared.event.Event.TheVariants.{Take, Revoke, Ask, Answer, Absorb, Part, Join, Save, Restart}
use Rattle.replica_core.specs.declared.event.Event.TheVariants.{AnswerReceipts, AskSums, AnswerSums}
use Rattle.replica_core.proofs.ContainsFacts.{contains-cases, contains-none}
use Rattle.replica_core.proofs.JoinLawFacts.{Laws}
use Rattle.replica_core.proofs.KeptFacts.{IsKept, kept-held, kept-where, kept-event}
use Rattle.std.proofs.Common.{inl, inr}

-- nothing is held, saved or sent at first, so all of it has every property
pub empty-kept : (P : Receipt → Type 0) (Q : Distrust → Type 0) (place : ℕ) (A : Type 0) → IsKept P Q place A empty_world
empty-kept P Q place A = record {
  now = λ i. record { receipts = λ r c. absurd (contains-none r c); records = λ x c. absurd (contains-none x c) };
  saved = λ a i. record { receipts = λ r c. absurd (contains-none r c); records = λ x c. absurd (contains-none x c) };
  sent = λ n message l e. absurd (let none : None ≡ Some message = e in cc);
}

-- who passes the test of a replica's number is one of the replicas
pub inside : (rules : Rules) (i : ℕ) → is_replica rules i ≡ true → i < rules.replicas
inside rules i o = let within : i + 1 ≤ rules.replicas = leb-true (i + 1) rules.replicas o in omega arith

-- the properties of all that is held, saved and sent: it was taken, or distrusted
abbrev HasSources : WorldRun → World → Type 0
HasSources past w = IsKept (WasTaken past) (WasRevoked past) 0 ⊤ w

-- the world after the events before one, and that event
next : (past : WorldRun) (before : List Event) (event : Event)
    → run (rules_in past) (before ++ event ∷ []) ≡ happens (rules_in past) (run (rules_in past) before) event
next past before event = fold-append (happens (rules_in past)) empty_world before (event ∷ [])

-- A receipt that a replica takes has this event as its source.
taken-sources : (laws : Laws) (past : WorldRun) (before after : List Event) (i : ℕ) (r : Receipt) → past.events ≡ before ++ Take i r ∷ after
    → HasSources past (run (rules_in past) before) → HasSources past (happens (rules_in past) (run (rules_in past) before) (Take i r))
taken-sources laws past before after i r order h =
    let rules = rules_in past in
    let w = run rules before in
    let b = is_replica rules i && rules.fits r in
    kept-where (WasTaken past) (WasRevoked past) 0 ⊤ b rules.limits w (gains i (only_receipt r)) h
    (λ e. kept-held laws (WasTaken past) (WasRevoked past) 0 ⊤ (is_within_limits (rules.limits i) (joined (w.now i) (only_receipt r))) w i (only_receipt r) h
    (λ s c held. elim (contains-cases r [] s c) [
      | inl same ↦
          let there : Contains ((happens rules w (Take i r)).now i).held s =
          subst (λ t. Contains ((apply rules.limits w (where_so t (gains i (only_receipt r)))).now i).held s) (sym e) held in
          let then : Contains ((run rules (before ++ Take i r ∷ [])).now i).held s =
          subst (λ (v : World). Contains (v.now i).held s) (sym (next past before (Take i r))) there in
          subst (WasTaken past) (sym same) (record {
            before = before;
            replica = i;
            after = after;
            inside = inside rules i (and_parts (is_replica rules i) (rules.fits r) e).0;
            order = order;
            held = subst (λ (t : Receipt). Contains ((run rules (before ++ Take i r ∷ [])).now i).held t) same then;
          })
      | inr none ↦ absurd (contains-none s none)
    ])
    (λ x c held. absurd (contains-none x c)))

-- A record of a key that a replica distrusts has this event as its source.
revoked-sources : (laws : Laws) (past : WorldRun) (before after : List Event) (i : ℕ) (x : Distrust) → past.events ≡ before ++ Revoke i x ∷ after
    → HasSources past (run (rules_in past) before) → HasSources past (happens (rules_in past) (run (rules_in past) before) (Revoke i x))
revoked-sources laws past before after i x order h =
    let rules = rules_in past in
    let w = run rules before in
    let b = is_replica rules i && rules.knows x.domain in
    kept-where (WasTaken past) (WasRevoked past) 0 ⊤ b rules.limits w (gains i (only_record x)) h
    (λ e. kept-held laws (WasTaken past) (WasRevoked past) 0 ⊤ (is_within_limits (rules.limits i) (joined (w.now i) (only_record x))) w i (only_record x) h
    (λ r c held. absurd (contains-none r c))
    (λ s c held. elim (contains-cases x [] s c) [
      | inl same ↦
          let there : Contains ((happens rules w (Revoke i x)).now i).records s =
          subst (λ t. Contains ((apply rules.limits w (where_so t (gains i (only_record x)))).now i).records s) (sym e) held in
          let then : Contains ((run rules (before ++ Revoke i x ∷ [])).now i).records s =
          subst (λ (v : World). Contains (v.now i).records s) (sym (next past before (Revoke i x))) there in
          subst (WasRevoked past) (sym same) (record {
            before = before;
            replica = i;
            after = after;
            inside = inside rules i (and_parts (is_replica rules i) (rules.knows x.domain) e).0;
            order = order;
            held = subst (λ (t : Distrust). Contains ((run rules (before ++ Revoke i x ∷ [])).now i).records t) same then;
          })
      | inr none ↦ absurd (contains-none s none)
    ]))

-- by one more event
event-sources : (laws : Laws) (past : WorldRun) (before after : List Event) (event : Event) → past.events ≡ before ++ event ∷ after
    → HasSources past (run (rules_in past) before) → HasSources past (happens (rules_in past) (run (rules_in past) before) event)
event-sources laws past before after (Take i r) order h = taken-sources laws past before after i r order h
event-sources laws past before after (Revoke i x) order h = revoked-sources laws past before after i x order h
event-sources laws past before after (Ask i b) order h =
    kept-event laws (WasTaken past) (WasRevoked past) 0 ⊤ (rules_in past) (run (rules_in past) before) (Ask i b) h tt
event-sources laws past before after (Answer j k) order h =
    kept-event laws (WasTaken past) (WasRevoked past) 0 ⊤ (rules_in past) (run (rules_in past) before) (Answer j k) h tt
event-sources laws past before after (AnswerReceipts j k) order h =
    kept-event laws (WasTaken past) (WasRevoked past) 0 ⊤ (rules_in past) (run (rules_in past) before) (AnswerReceipts j k) h tt
event-sources laws past before after (AskSums i) order h =
    kept-event laws (WasTaken past) (WasRevoked past) 0 ⊤ (rules_in past) (run (rules_in past) before) (AskSums i) h tt
event-sources laws past before after (AnswerSums j k) order h =
    kept-event laws (WasTaken past) (WasRevoked past) 0 ⊤ (rules_in past) (run (rules_in past) before) (AnswerSums j k) h tt
event-sources laws past before after (Absorb i k) order h =
    kept-event laws (WasTaken past) (WasRevoked past) 0 ⊤ (rules_in past) (run (rules_in past) before) (Absorb i k) h (omega arith)
event-sources laws past before after (Part i k m) order h =
    kept-event laws (WasTaken past) (WasRevoked past) 0 ⊤ (rules_in past) (run (rules_in past) before) (Part i k m) h (omega arith)
event-sources laws past before after (Join i j) order h =
    kept-event laws (WasTaken past) (WasRevoked past) 0 ⊤ (rules_in past) (run (rules_in past) before) (Join i j) h tt
event-sources laws past before after (Save i) order h =
    kept-event laws (WasTaken past) (WasRevoked past) 0 ⊤ (rules_in past) (run (rules_in past) before) (Save i) h tt
event-sources laws past before after (Restart i) order h =
    kept-event laws (WasTaken past) (WasRevoked past) 0 ⊤ (rules_in past) (run (rules_in past) before) (Restart i) h tt

-- and so by all that are left
rest-sources : (laws : Laws) (past : WorldRun) (before rest : List Event) → past.events ≡ before ++ rest
    → HasSources past (run (rules_in past) before) → HasSources past (run_from (rules_in past) (run (rules_in past) before) rest)
rest-sources laws past before [] order h = h
rest-sources laws past before (event ∷ rest) order h =
    let rules = rules_in past in
    let one = next past before event in
    subst (λ (w : World). HasSources past (run_from rules w rest)) one
    (rest-sources laws past (before ++ event ∷ []) rest (order ∙ sym (append_assoc before (event ∷ []) rest))
    (subst (HasSources past) (sym one) (event-sources laws past before rest event order h)))

-- All that is held, saved and sent in the end has its sources.
all-sources : (laws : Laws) (past : WorldRun) → HasSources past (world_after past)
all-sources laws past = rest-sources laws past [] past.events refl (empty-kept (WasTaken past) (WasRevoked past) 0 ⊤)

-- What a replica holds was taken or distrusted somewhere before.
pub now-comes : (laws : Laws) (past : WorldRun) (i : ℕ) → ComesFrom past (held_by past i)
now-comes laws past i = let h = (all-sources laws past).now i in record { receipts = h.receipts; distrusts = h.records }

-- So was what it saved.
pub saved-comes : (laws : Laws) (past : WorldRun) (i : ℕ) → ComesFrom past (saved_by past i)
saved-comes laws past i = let h = (all-sources laws past).saved tt i in record { receipts = h.receipts; distrusts = h.records }
