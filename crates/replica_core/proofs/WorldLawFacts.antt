-- The clauses of the law, each of every list of events.
use Rattle.std.proofs.Common.{◌≡◌, ◌≢◌, ℕ, ◌<◌, ◌≤◌, ◌⊎◌, inl, inr, Bool, true, false, cond, ◌&&◌, nat_le, List, []}
use Rattle.std.proofs.Common.{◌∷◌, ◌++◌, length, arith, refl, sym, ap, ◌∙◌, subst, leb-true}
use Rattle.std.specs.Prelude.{⊤, Contains, Option, Some, None, bytes_eq}
use Rattle.std.specs.List.{list_any, list_all}
use Rattle.std.proofs.lemmas.Bool.{and_parts}
use Rattle.std.proofs.lemmas.Slice.Eq.{bytes_eq-Decides}
use Rattle.std.proofs.lemmas.List.Sums.{fold-append}
use Rattle.spiffe_name.specs.SpiffeId.{Id}
use Rattle.fed_config.specs.Configuration.{Configuration, HasDomain, Reaches}
use Rattle.fed_config.specs.declared.floor.Floor.{Floor}
use Rattle.fed_config.specs.declared.relationship.Relationship.{Relationship}
use Rattle.fed_config.specs.declared.seed.Seed.{Seed}
use Rattle.receipt_core.specs.declared.distrust.Distrust.{Distrust}
use Rattle.receipt_core.specs.Receipt.{Receipt, IsReceipt, IsDistrust}
use Rattle.receipt_core.specs.Acceptance.{IsMeaning, IsFitting}
use Rattle.replica_core.specs.State.{no_state}
use Rattle.replica_core.specs.World.{Message, have_sent, give_sent, World, empty_world, Rules, same_id, is_reached, is_fitting, is_known, happens}
use Rattle.replica_core.specs.World.{run_from, run, WorldRun, rules_in, config_in, world_after, held_by, saved_by, followed_by, meant_by}
use Rattle.replica_core.specs.World.{sums_sent, marks_sent}
use Rattle.replica_core.specs.Convergence.{IsEvent, AreEvents, Lacks, IsPartOf, Inquiry, IsInquiry, ExchangeOf, at_give, after_taking, HasAll, Settles}
use Rattle.replica_core.specs.Convergence.{shown_with, Peers, ArePeers, SumsCourse, IsUninterrupted, answerer_held}
use Rattle.replica_core.specs.declared.event.Event.{Event}
use Rattle.replica_core.specs.declared.event.Event.TheVariants.{Take, Revoke, Ask, Answer, Absorb, Part, Join, Save, Restart}
use Rattle.replica_core.specs.declared.event.Event.TheVariants.{AnswerReceipts, AskSums, AnswerSums}
use Rattle.replica_core.proofs.ContainsFacts.{any-from, contains-cases, contains-none, each-from, each-to}
use Rattle.replica_core.proofs.JoinLawFacts.{Laws}
use Rattle.replica_core.proofs.Provenance.{empty-kept}
use Rattle.replica_core.proofs.KeptFacts.{IsKept, KeepsMessage, Admits, kept-run}
use Rattle.replica_core.proofs.EventFacts.{part-event, saved-run, saved-here, restarted-here}
use Rattle.replica_core.proofs.StateFacts.{IsTidy, IsOutside, Throughout, throughout-run, tidy-kept, tidy-empty, outside-kept, outside-empty}
use Rattle.replica_core.proofs.ExchangeFacts.{exchange-gives}
use Rattle.replica_core.proofs.AgreementFacts.{IsStart, course-forms, sums-bring, agree}
use Rattle.receipt_core.specs.Limits.{receipt_limit, record_limit}

-- ---- what is held is a meaning

-- Ids that the test finds equal are equal.
same-ids : (a b : Id) → same_id a b ≡ true → a ≡ b
same-ids a b e =
    let parts = and_parts (bytes_eq a.text b.text && bytes_eq a.domain b.domain) (bytes_eq a.path b.path) e in
    let front = and_parts (bytes_eq a.text b.text) (bytes_eq a.domain b.domain) parts.0 in
    let text : a.text ≡ b.text = (bytes_eq-Decides a.text b.text).0 front.0 in
    let domain : a.domain ≡ b.domain = (bytes_eq-Decides a.domain b.domain).0 front.1 in
    let path : a.path ≡ b.path = (bytes_eq-Decides a.path b.path).0 parts.1 in
    ap (λ t. record a { text = t }) text ∙ ap (λ t. record { text = b.text; domain = t; path = a.path }) domain
    ∙ ap (λ t. record { text = b.text; domain = b.domain; path = t }) path

-- If the test of the list passes, each item passes.
all-from : {X : Type 0} (p : X → Bool) (xs : List X) (x : X) → list_all p xs ≡ true → Contains xs x → p x ≡ true
all-from p [] x e c = absurd (contains-none x c)
all-from p (y ∷ ys) x e c =
    let both = and_parts (p y) (list_all p ys) e in
    elim (contains-cases y ys x c) [ inl same ↦ ap p same ∙ both.0 | inr later ↦ all-from p ys x both.1 later ]

-- A document that passes the world's test reaches the number.
reached-from : (sequence : ℕ) (rank : Option ℕ) → is_reached sequence rank ≡ true → (n : ℕ) × (rank ≡ Some n) × (sequence ≤ n)
reached-from sequence None e = absurd (let f : false ≡ true = e in cc)
reached-from sequence (Some n) e = (n, refl, leb-true sequence n e)

-- A floor that passes the world's test is reached if it is of the domain.
floor-from : (f : Floor) (r : Receipt) → cond (bytes_eq f.domain r.domain) (is_reached f.sequence r.document.rank) true ≡ true
    → f.domain ≡ r.domain → Reaches f.sequence r.document
floor-from f r e same =
    let is : bytes_eq f.domain r.domain ≡ true = (bytes_eq-Decides f.domain r.domain).1 same in
    reached-from f.sequence r.document.rank (ap (λ b. cond b (is_reached f.sequence r.document.rank) true) (sym is) ∙ e)

-- A receipt that passes the world's test fits.
pub fits-from : (config : Configuration) (r : Receipt) → is_fitting config r ≡ true → IsFitting config r
fits-from config r e =
    let tests = and_parts (list_any (λ (o : Relationship). bytes_eq o.domain r.domain && same_id o.endpoint r.endpoint) config.relationships)
    (list_all (λ (f : Floor). cond (bytes_eq f.domain r.domain) (is_reached f.sequence r.document.rank) true) config.floors) e in
    let found = any-from (λ (o : Relationship). bytes_eq o.domain r.domain && same_id o.endpoint r.endpoint) config.relationships tests.0 in
    let both = and_parts (bytes_eq found.0.domain r.domain) (same_id found.0.endpoint r.endpoint) found.2 in
    record {
      relationship = found.0;
      has = found.1;
      domain = (bytes_eq-Decides found.0.domain r.domain).0 both.0;
      endpoint = same-ids found.0.endpoint r.endpoint both.1;
      reaches = λ f has same. floor-from f r
          (all-from (λ (g : Floor). cond (bytes_eq g.domain r.domain) (is_reached g.sequence r.document.rank) true) config.floors f tests.1 has) same;
    }

-- If a test that finds one of three passes, one of the three does.
known-cases : (a b c : Bool) → cond a true (cond b true c) ≡ true → (a ≡ true) ⊎ ((b ≡ true) ⊎ (c ≡ true))
known-cases true b c e = inl refl
known-cases false true c e = inr (inl refl)
known-cases false false c e = inr (inr e)

-- A domain that passes the world's test is one of the configuration.
pub knows-from : (config : Configuration) (domain : List ℕ) → is_known config domain ≡ true → HasDomain config domain
knows-from config domain e =
    elim (known-cases (list_any (λ (r : Relationship). bytes_eq r.domain domain) config.relationships)
    (list_any (λ (r : Relationship). bytes_eq r.endpoint.domain domain) config.relationships)
    (list_any (λ (s : Seed). bytes_eq s.domain domain) config.seeds) e) [
      | inl h ↦ let found = any-from (λ (r : Relationship). bytes_eq r.domain domain) config.relationships h in
          inl (found.0, found.1, (bytes_eq-Decides found.0.domain domain).0 found.2)
      | inr k ↦ elim k [
        | inl h ↦ let found = any-from (λ (r : Relationship). bytes_eq r.endpoint.domain domain) config.relationships h
            in inr (inl (found.0, found.1, (bytes_eq-Decides found.0.endpoint.domain domain).0 found.2))
        | inr h ↦ let found = any-from (λ (s : Seed). bytes_eq s.domain domain) config.seeds h in
            inr (inr (found.0, found.1, (bytes_eq-Decides found.0.domain domain).0 found.2))
      ]
    ]

-- the receipt is of its form and fits the configuration
abbrev IsReceiptOf : Configuration → Receipt → Type 0
IsReceiptOf config r = IsReceipt r × IsFitting config r

-- the record is of its form, and its domain is known
abbrev IsDistrustOf : Configuration → Distrust → Type 0
IsDistrustOf config x = IsDistrust x × HasDomain config x.domain

-- An event that takes a receipt, or a record, of its form takes one of the configuration of any
-- replica.
forms-admits : (past : WorldRun) (own : ℕ) (event : Event) → IsEvent event
    → Admits (rules_in past) (IsReceiptOf (config_in past own)) (IsDistrustOf (config_in past own)) 0 ⊤ event
forms-admits past own (Take i r) h = λ o e. (h, fits-from (config_in past own) r e)
forms-admits past own (Revoke i x) h = λ o e. (h, knows-from (config_in past own) x.domain e)
forms-admits past own (Ask i b) h = tt
forms-admits past own (Answer j k) h = tt
forms-admits past own (AnswerReceipts j k) h = tt
forms-admits past own (AskSums i) h = tt
forms-admits past own (AnswerSums j k) h = tt
forms-admits past own (Absorb i k) h = omega arith
forms-admits past own (Part i k m) h = omega arith
forms-admits past own (Join i j) h = tt
forms-admits past own (Save i) h = tt
forms-admits past own (Restart i) h = tt

-- So all that is held, saved and sent is of its form and of that configuration.
all-forms : (laws : Laws) (past : WorldRun) (own : ℕ) → AreEvents past.events
    → IsKept (IsReceiptOf (config_in past own)) (IsDistrustOf (config_in past own)) 0 ⊤ (world_after past)
all-forms laws past own h =
    let config = config_in past own in
    kept-run laws (IsReceiptOf config) (IsDistrustOf config) 0 ⊤ (rules_in past) past.events empty_world
    (empty-kept (IsReceiptOf config) (IsDistrustOf config) 0 ⊤)
    (λ event c. forms-admits past own event (each-from IsEvent past.events h event c))

-- All states are sorted lists within the limits.
all-tidy : (laws : Laws) (rules : Rules) (events : List Event) → Throughout (λ i state. IsTidy (rules.limits i) state) (run rules events)
all-tidy laws rules events =
    throughout-run rules (λ i state. IsTidy (rules.limits i) state) (tidy-kept laws rules) events empty_world (tidy-empty rules.limits)

-- The clause `means`: what a replica holds is what a closure can mean.
pub means : (laws : Laws) (past : WorldRun) (i : ℕ) → AreEvents past.events → IsMeaning (meant_by past i)
means laws past i h =
    let config = config_in past i in
    let state = held_by past i in
    let forms = (all-forms laws past i h).now i in
    let tidy = (all-tidy laws (rules_in past) past.events).now i in
    let within = and_parts (nat_le (length state.held) (receipt_limit config)) (nat_le (length state.records) (record_limit config)) tidy.within in
    record {
      receipts = each-to IsReceipt state.held (λ r c. (forms.receipts r c).0);
      rising = tidy.rising;
      fitting = each-to (IsFitting config) state.held (λ r c. (forms.receipts r c).1);
      few = leb-true (length state.held) (receipt_limit config) within.0;
      distrusts = each-to IsDistrust state.records (λ x c. (forms.records x c).0);
      records_rising = tidy.records_rising;
      domains = each-to (λ (x : Distrust). HasDomain config x.domain) state.records (λ x c. (forms.records x c).1);
      few_records = leb-true (length state.records) (record_limit config) within.1;
    }

-- ---- growth, saves and restarts

-- The clause `grows`: no event but its own restart takes anything from a replica.
pub grows : (laws : Laws) (past : WorldRun) (event : Event) (i : ℕ) → event ≢ Restart i
    → IsPartOf (held_by past i) (held_by (followed_by past (event ∷ [])) i)
grows laws past event i d =
    subst (λ (w : World). IsPartOf (held_by past i) (w.now i))
    (sym (fold-append (happens (rules_in past)) empty_world past.events (event ∷ [])))
    (part-event laws (rules_in past) (world_after past) i event d)

-- The clause `restarts`: a restart gives what was saved last.
pub restarts-saved : (past : WorldRun) (i : ℕ) → i < past.replicas → held_by (followed_by past (Restart i ∷ [])) i ≡ saved_by past i
restarts-saved past i l =
    ap (λ (w : World). w.now i) (fold-append (happens (rules_in past)) empty_world past.events (Restart i ∷ []))
    ∙ restarted-here (rules_in past) i (world_after past) l

-- The clause `saves`: what was saved remains until the next save.
pub saved-last : (past : WorldRun) (since : List Event) (i : ℕ) → i < past.replicas → Lacks since (Save i)
    → saved_by (followed_by past (Save i ∷ since)) i ≡ held_by past i
saved-last past since i l h =
    let rules = rules_in past in
    ap (λ (w : World). w.saved i) (fold-append (happens rules) empty_world past.events (Save i ∷ since))
    ∙ saved-run rules i since (happens rules (world_after past) (Save i)) h
    ∙ saved-here rules i (world_after past) l

-- The clause `never_saved`: who never saved has saved nothing.
pub never-saved : (past : WorldRun) (i : ℕ) → Lacks past.events (Save i) → saved_by past i ≡ no_state
never-saved past i h = saved-run (rules_in past) i past.events empty_world h

-- ---- exchanges and agreement

-- What an answer brings of this configuration is of its form.
plain-message : (config : Configuration) (message : Message)
    → KeepsMessage (IsReceiptOf config) (IsDistrustOf config) message → KeepsMessage IsReceipt IsDistrust message
plain-message config (have_sent asker bucket ids) h = tt
plain-message config (give_sent answerer place content) h = record { receipts = λ r c. (h.receipts r c).0; records = λ x c. (h.records x c).0 }
plain-message config (sums_sent asker) h = tt
plain-message config (marks_sent answerer place) h = tt

-- All that is held, saved and sent of this configuration is of its form.
plain-kept : (config : Configuration) (w : World) → IsKept (IsReceiptOf config) (IsDistrustOf config) 0 ⊤ w → IsKept IsReceipt IsDistrust 0 ⊤ w
plain-kept config w h = record {
  now = λ i. record { receipts = λ r c. ((h.now i).receipts r c).0; records = λ x c. ((h.now i).records x c).0 };
  saved = λ a i. record { receipts = λ r c. ((h.saved a i).receipts r c).0; records = λ x c. ((h.saved a i).records x c).0 };
  sent = λ n message l e. plain-message config message (h.sent n message l e);
}

-- An event that takes a receipt, or a record, of its form keeps all of its form.
event-admits : (rules : Rules) (event : Event) → IsEvent event → Admits rules IsReceipt IsDistrust 0 ⊤ event
event-admits rules (Take i r) h = λ o e. h
event-admits rules (Revoke i x) h = λ o e. h
event-admits rules (Ask i b) h = tt
event-admits rules (Answer j k) h = tt
event-admits rules (AnswerReceipts j k) h = tt
event-admits rules (AskSums i) h = tt
event-admits rules (AnswerSums j k) h = tt
event-admits rules (Absorb i k) h = omega arith
event-admits rules (Part i k m) h = omega arith
event-admits rules (Join i j) h = tt
event-admits rules (Save i) h = tt
event-admits rules (Restart i) h = tt

-- What is known after any list of events is what the exchanges and the agreement begin with.
starts : (laws : Laws) (past : WorldRun) → AreEvents past.events → IsStart (rules_in past) (world_after past)
starts laws past h =
    record {
      forms = plain-kept (config_in past 0) (world_after past) (all-forms laws past 0 h);
      tidy = all-tidy laws (rules_in past) past.events;
      outside = throughout-run (rules_in past) (IsOutside (rules_in past)) (outside-kept (rules_in past))
          past.events empty_world (outside-empty (rules_in past));
    }

-- Who takes another's whole answer has what that showed of the bucket.
pub exchanged : (full : Bool) (laws : Laws) (past : WorldRun) (since : List Event) (q : Inquiry) → AreEvents past.events
    → AreEvents since → IsInquiry past.replicas q → (x : ExchangeOf full (rules_in past) (world_after past) q since)
    → HasAll q.bucket (shown_with full ((at_give (rules_in past) (world_after past) x.course).now q.answerer))
    ((after_taking (rules_in past) (world_after past) x.course).now q.asker)
exchanged full laws past since q f s is x =
    let rules = rules_in past in
    let w = world_after past in
    let formed = course-forms full laws rules q since w x.course (starts laws past f).forms
    (λ event c. event-admits rules event (each-from IsEvent since s event c)) in
    exchange-gives full laws rules w q since is x (formed.0.now q.answerer) (formed.1.now q.asker)

-- The clause `brings`: a course by sums brings what the other held when it compared them.
pub brought : (laws : Laws) (past : WorldRun) (since : List Event) (p : Peers) (b : ℕ) → AreEvents past.events → AreEvents since
    → ArePeers past.replicas p → b ≤ 255 → (c : SumsCourse (rules_in past) (world_after past) p since) → IsUninterrupted c.compared
    → HasAll b (answerer_held (rules_in past) (world_after past) c.compared) (held_by (followed_by past since) p.asker)
brought laws past since p b f s are small c still =
    let rules = rules_in past in
    subst (λ (w : World). HasAll b (answerer_held rules (world_after past) c.compared) (w.now p.asker))
    (sym (fold-append (happens rules) empty_world past.events since))
    (sums-bring laws rules (world_after past) p b since are small c (starts laws past f).forms
    (λ event d. event-admits rules event (each-from IsEvent since s event d)) still)

-- The clause `agreed`: after all pulled from each other in quiet any two replicas hold the same.
pub agreed : (laws : Laws) (past : WorldRun) (since : List Event) (i j : ℕ) → AreEvents past.events → i < past.replicas → j < past.replicas
    → Settles (rules_in past) (world_after past) since → held_by (followed_by past since) i ≡ held_by (followed_by past since) j
agreed laws past since i j f l m s =
    let rules = rules_in past in
    let first = past.events in
    let same : run rules (first ++ since) ≡ run_from rules (run rules first) since = fold-append (happens rules) empty_world first since in
    let tidy : Throughout (λ k state. IsTidy (rules.limits k) state) (run_from rules (run rules first) since) =
    subst (Throughout (λ k state. IsTidy (rules.limits k) state)) same (all-tidy laws rules (first ++ since)) in
    subst (λ (w : World). w.now i ≡ w.now j) (sym same)
    (agree laws rules (run rules first) since i j (starts laws past f) tidy s l m)
