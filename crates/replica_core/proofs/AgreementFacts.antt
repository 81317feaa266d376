-- Replicas that pulled from each other in quiet hold the same.
use Rattle.std.proofs.Common.{◌≡◌, ◌≢◌, ℕ, ◌<◌, ◌≤◌, ◌⊎◌, inl, inr, Bool, true, false, List, ◌∷◌, ◌++◌, length, arith, refl, sym, ap, ap₂, ◌∙◌, subst}
use Rattle.std.specs.Prelude.{Contains, slice_get, Some, ⊤}
use Rattle.std.proofs.lemmas.Bool.{cases_eq, cases_lt}
use Rattle.std.proofs.lemmas.List.Elements.{Contains-append_left, Contains-append_right}
use Rattle.std.proofs.lemmas.List.Sums.{fold-append}
use Rattle.std.proofs.lemmas.Option.{slice_get_within}
use Rattle.receipt_core.specs.declared.distrust.Distrust.{Distrust}
use Rattle.receipt_core.specs.Receipt.{Receipt, IsReceipt, IsDistrust, receipt_id_of}
use Rattle.replica_core.specs.State.{State, bucket_of_id}
use Rattle.replica_core.specs.World.{Message, World, Rules, happens, run_from}
use Rattle.replica_core.specs.Convergence.{Inquiry, IsInquiry, CourseOf, ExchangeOf, at_have, at_give, at_taking, after_taking, HasAll, IsPartOf, Lacks}
use Rattle.replica_core.specs.Convergence.{answer_with, shown_with, Peers, ArePeers, about, Comparison, at_sums, at_marks, after_marks, answerer_held}
use Rattle.replica_core.specs.Convergence.{SumsCourse, IsUninterrupted, IsQuiet, Settles}
use Rattle.replica_core.specs.declared.event.Event.{Event}
use Rattle.replica_core.specs.declared.event.Event.TheVariants.{Take, Revoke, Ask, Answer, Absorb, Part, Join, Save, Restart}
use Rattle.replica_core.specs.declared.event.Event.TheVariants.{AnswerReceipts, AskSums, AnswerSums}
use Rattle.replica_core.proofs.ContainsFacts.{contains-later, contains-none}
use Rattle.replica_core.proofs.JoinLawFacts.{Laws}
use Rattle.replica_core.proofs.KeptFacts.{IsKept, Admits, kept-event, kept-run}
use Rattle.replica_core.proofs.EventFacts.{part-refl, part-trans, part-event, part-run}
use Rattle.replica_core.proofs.StateFacts.{IsTidy, IsOutside, Throughout}
use Rattle.replica_core.proofs.ExchangeFacts.{exchange-gives, held-from}
use Rattle.replica_core.proofs.IdFacts.{held-to}
use Rattle.replica_core.proofs.BucketFacts.{bucket-small}

-- ---- the parts of a course

-- An event of one part is an event of the whole.
course-parts : (ask answer absorb : Event) (before asked answered after : List Event) (event : Event)
    → (Contains before event ⊎ (Contains asked event ⊎ (Contains answered event ⊎ Contains after event)))
    → Contains (before ++ (ask ∷ asked ++ (answer ∷ answered ++ (absorb ∷ after)))) event
course-parts ask answer absorb before asked answered after event h =
    elim h [
      | inl c ↦ Contains-append_left before _ event c
      | inr k ↦ Contains-append_right before _ event (contains-later _ _ event (elim k [
        | inl c ↦ Contains-append_left asked _ event c
        | inr m ↦ Contains-append_right asked _ event (contains-later _ _ event (elim m [
          | inl c ↦ Contains-append_left answered _ event c
          | inr c ↦ Contains-append_right answered _ event (contains-later _ _ event c)
        ]))
      ]))
    ]

-- An event of one part of a course is one of its events.
in-course : (full : Bool) (q : Inquiry) (events : List Event) (c : CourseOf full q events) (event : Event)
    → (Contains c.before event ⊎ (Contains c.asked event ⊎ (Contains c.answered event ⊎ Contains c.after event))) → Contains events event
in-course full q events c event h =
    subst (λ es. Contains es event) (sym c.order)
    (course-parts (Ask q.asker q.bucket) (answer_with full q.answerer c.have_place) (Absorb q.asker c.give_place)
    c.before c.asked c.answered c.after event h)

-- All events of a course do what its last part does to the world after the taking.
course-run : (full : Bool) (q : Inquiry) (events : List Event) (rules : Rules) (start : World) (c : CourseOf full q events)
    → run_from rules start events ≡ run_from rules (after_taking rules start c) c.after
course-run full q events rules start c =
    ap (run_from rules start) c.order
    ∙ fold-append (happens rules) start c.before _
    ∙ fold-append (happens rules) (happens rules (at_have rules start c) (Ask q.asker q.bucket)) c.asked _
    ∙ fold-append (happens rules) (happens rules (at_give rules start c) (answer_with full q.answerer c.have_place)) c.answered _

-- ---- the parts of a comparison

-- An event of one part of a comparison is one of its events.
in-comparison : (p : Peers) (events : List Event) (c : Comparison p events) (event : Event)
    → (Contains c.before event ⊎ (Contains c.asked event ⊎ Contains c.after event)) → Contains events event
in-comparison p events c event h =
    subst (λ es. Contains es event) (sym c.order) (elim h [
      | inl d ↦ Contains-append_left c.before _ event d
      | inr k ↦ Contains-append_right c.before _ event (contains-later _ _ event (elim k [
        | inl d ↦ Contains-append_left c.asked _ event d
        | inr d ↦ Contains-append_right c.asked _ event (contains-later _ _ event d)
      ]))
    ])

-- All events do what those after the comparison do to the world after it.
comparison-run : (p : Peers) (events : List Event) (rules : Rules) (start : World) (c : Comparison p events)
    → run_from rules start events ≡ run_from rules (after_marks rules start c) c.after
comparison-run p events rules start c =
    ap (run_from rules start) c.order
    ∙ fold-append (happens rules) start c.before _
    ∙ fold-append (happens rules) (happens rules (at_sums rules start c) (AskSums p.asker)) c.asked _

-- ---- what is quiet

-- A quiet event keeps what is so of all that is held and of what was sent since.
quiet-admits : (rules : Rules) (P : Receipt → Type 0) (Q : Distrust → Type 0) (place : ℕ) (event : Event) → IsQuiet place event → Admits rules P Q place ⊥ event
quiet-admits rules P Q place (Take i r) h = absurd h
quiet-admits rules P Q place (Revoke i x) h = absurd h
quiet-admits rules P Q place (Ask i b) h = tt
quiet-admits rules P Q place (Answer j k) h = tt
quiet-admits rules P Q place (AnswerReceipts j k) h = tt
quiet-admits rules P Q place (AskSums i) h = tt
quiet-admits rules P Q place (AnswerSums j k) h = tt
quiet-admits rules P Q place (Absorb i k) h = h
quiet-admits rules P Q place (Part i k m) h = h
quiet-admits rules P Q place (Join i j) h = tt
quiet-admits rules P Q place (Save i) h = tt
quiet-admits rules P Q place (Restart i) h = h

-- A quiet event also keeps what is so of all that is held, saved and was ever sent.
pub quiet-admits_all : (rules : Rules) (P : Receipt → Type 0) (Q : Distrust → Type 0) (place : ℕ) (event : Event) → IsQuiet place event
    → Admits rules P Q 0 ⊤ event
quiet-admits_all rules P Q place (Take i r) h = absurd h
quiet-admits_all rules P Q place (Revoke i x) h = absurd h
quiet-admits_all rules P Q place (Ask i b) h = tt
quiet-admits_all rules P Q place (Answer j k) h = tt
quiet-admits_all rules P Q place (AnswerReceipts j k) h = tt
quiet-admits_all rules P Q place (AskSums i) h = tt
quiet-admits_all rules P Q place (AnswerSums j k) h = tt
quiet-admits_all rules P Q place (Absorb i k) h = omega arith
quiet-admits_all rules P Q place (Part i k m) h = omega arith
quiet-admits_all rules P Q place (Join i j) h = tt
quiet-admits_all rules P Q place (Save i) h = tt
quiet-admits_all rules P Q place (Restart i) h = tt

-- what is known of the world when the quiet begins
pub record IsStart (rules : Rules) (w : World) : Type 0 where
  pub forms : IsKept IsReceipt IsDistrust 0 ⊤ w
  pub tidy : Throughout (λ i state. IsTidy (rules.limits i) state) w
  pub outside : Throughout (IsOutside rules) w

-- some replica holds the receipt
abbrev pub IsHeld : World → Receipt → Type 0
IsHeld w r = (j : ℕ) × Contains (w.now j).held r

-- some replica holds the record
abbrev pub IsRecorded : World → Distrust → Type 0
IsRecorded w x = (j : ℕ) × Contains (w.now j).records x

-- There is no message past the last.
none-past : (w : World) (n : ℕ) (message : Message) → length w.sent ≤ n → slice_get w.sent n ≡ Some message → ⊥
none-past w n message l e = let within = slice_get_within w.sent n message e in omega arith

-- At the start all that is held is held somewhere at the start, and no message has been sent since.
held-start : (w : World) → IsKept (IsHeld w) (IsRecorded w) (length w.sent) ⊥ w
held-start w = record {
  now = λ i. record { receipts = λ r c. (i, c); records = λ x c. (i, c) };
  saved = λ a i. absurd a;
  sent = λ n message l e. absurd (none-past w n message l e);
}

-- In quiet no replica restarts.
no-restart : (rules : Rules) (w : World) (since : List Event) (i : ℕ) → Settles rules w since → Lacks since (Restart i)
no-restart rules w since i s c = s.quiet (Restart i) c

-- in the end nothing is held that was not held at the start
held-end : (laws : Laws) (rules : Rules) (w : World) (since : List Event) → Settles rules w since
    → IsKept (IsHeld w) (IsRecorded w) (length w.sent) ⊥ (run_from rules w since)
held-end laws rules w since s =
    kept-run laws (IsHeld w) (IsRecorded w) (length w.sent) ⊥ rules since w (held-start w)
    (λ event c. quiet-admits rules (IsHeld w) (IsRecorded w) (length w.sent) event (s.quiet event c))

-- ---- what one replica has from another

-- An answer of either kind keeps what is so of all that is held and sent.
answer-admits : (full : Bool) (rules : Rules) (j k : ℕ) → Admits rules IsReceipt IsDistrust 0 ⊤ (answer_with full j k)
answer-admits true rules j k = tt
answer-admits false rules j k = tt

-- all that is held at the answer and at the taking is well formed
pub course-forms : (full : Bool) (laws : Laws) (rules : Rules) (q : Inquiry) (events : List Event) (w : World) (c : CourseOf full q events)
    → IsKept IsReceipt IsDistrust 0 ⊤ w → ((event : Event) → Contains events event → Admits rules IsReceipt IsDistrust 0 ⊤ event)
    → IsKept IsReceipt IsDistrust 0 ⊤ (at_give rules w c) × IsKept IsReceipt IsDistrust 0 ⊤ (at_taking rules w c)
course-forms full laws rules q events w c h a =
    let reply = answer_with full q.answerer c.have_place in
    let answering : IsKept IsReceipt IsDistrust 0 ⊤ (at_give rules w c) =
    kept-run laws IsReceipt IsDistrust 0 ⊤ rules c.asked (happens rules (at_have rules w c) (Ask q.asker q.bucket))
    (kept-event laws IsReceipt IsDistrust 0 ⊤ rules (at_have rules w c) (Ask q.asker q.bucket)
    (kept-run laws IsReceipt IsDistrust 0 ⊤ rules c.before w h
    (λ event d. a event (in-course full q events c event (inl d)))) tt)
    (λ event d. a event (in-course full q events c event (inr (inl d))))
    in (
      answering,
      kept-run laws IsReceipt IsDistrust 0 ⊤ rules c.answered (happens rules (at_give rules w c) reply)
          (kept-event laws IsReceipt IsDistrust 0 ⊤ rules (at_give rules w c) reply answering (answer-admits full rules q.answerer c.have_place))
          (λ event d. a event (in-course full q events c event (inr (inr (inl d))))),
    )

-- What is shown of a part of a state is part of what is shown of the state.
part-shown : (full : Bool) (a b : State) → IsPartOf a b → IsPartOf (shown_with full a) (shown_with full b)
part-shown true a b p = p
part-shown false a b p = record { receipts = p.receipts; distrusts = λ x c. c }

-- Who has all of a state has all of each part of it, and so has whoever holds more.
has-more : (b : ℕ) (part given taken more : State) → IsPartOf part given → HasAll b given taken → IsPartOf taken more → HasAll b part more
has-more b part given taken more p h q = record {
  receipts = λ r c e. let found = h.receipts r (p.receipts r c) e in (found.0, q.receipts found.0 found.1, found.2);
  distrusts = λ x c. q.distrusts x (h.distrusts x (p.distrusts x c));
}

-- After events in which a whole answer is taken and neither of both restarts, the asker has what
-- the other held of the bucket before them.
exchange-brings : (full : Bool) (laws : Laws) (rules : Rules) (w : World) (q : Inquiry) (events : List Event) → IsInquiry rules.replicas q
    → ExchangeOf full rules w q events → IsKept IsReceipt IsDistrust 0 ⊤ w
    → ((event : Event) → Contains events event → Admits rules IsReceipt IsDistrust 0 ⊤ event)
    → Lacks events (Restart q.asker) → Lacks events (Restart q.answerer)
    → HasAll q.bucket (shown_with full (w.now q.answerer)) ((run_from rules w events).now q.asker)
exchange-brings full laws rules w q events is x forms admits asks answers =
    let i = q.asker in
    let j = q.answerer in
    let c = x.course in
    let u = at_have rules w c in
    let v = at_give rules w c in
    let formed = course-forms full laws rules q events w c forms admits in
    let given : IsPartOf (w.now j) (v.now j) =
    part-trans (w.now j) (u.now j) (v.now j) (part-run laws rules j c.before w (λ h. answers (in-course full q events c (Restart j) (inl h))))
    (part-trans (u.now j) ((happens rules u (Ask i q.bucket)).now j) (v.now j)
    (part-event laws rules u j (Ask i q.bucket) (λ e. cc))
    (part-run laws rules j c.asked (happens rules u (Ask i q.bucket)) (λ h. answers (in-course full q events c (Restart j) (inr (inl h))))))
    in
    let kept : IsPartOf ((after_taking rules w c).now i) ((run_from rules w events).now i) =
    subst (λ (z : World). IsPartOf ((after_taking rules w c).now i) (z.now i)) (sym (course-run full q events rules w c))
    (part-run laws rules i c.after (after_taking rules w c) (λ h. asks (in-course full q events c (Restart i) (inr (inr (inr h))))))
    in
    has-more q.bucket (shown_with full (w.now j)) (shown_with full (v.now j)) ((after_taking rules w c).now i) ((run_from rules w events).now i)
    (part-shown full (w.now j) (v.now j) given)
    (exchange-gives full laws rules w q events is x (formed.0.now j) (formed.1.now i)) kept

-- The receipts are shown in either kind of answer.
shown-held : (full : Bool) (state : State) (r : Receipt) → Contains state.held r → Contains (shown_with full state).held r
shown-held true state r c = c
shown-held false state r c = c

-- After events with a course by sums the asker has all that the other held when it compared them,
-- if the asker has not restarted since it made them, nor the other since.
pub sums-bring : (laws : Laws) (rules : Rules) (w : World) (p : Peers) (b : ℕ) (events : List Event) → ArePeers rules.replicas p → b ≤ 255
    → (x : SumsCourse rules w p events) → IsKept IsReceipt IsDistrust 0 ⊤ w
    → ((event : Event) → Contains events event → Admits rules IsReceipt IsDistrust 0 ⊤ event)
    → IsUninterrupted x.compared → HasAll b (answerer_held rules w x.compared) ((run_from rules w events).now p.asker)
sums-bring laws rules w p b events are small x forms admits still =
    let i = p.asker in
    let j = p.answerer in
    let c = x.compared in
    let u = at_sums rules w c in
    let v = at_marks rules w c in
    let z = after_marks rules w c in
    let end = run_from rules z c.after in
    let asked = happens rules u (AskSums i) in
    let formed : IsKept IsReceipt IsDistrust 0 ⊤ z =
    kept-event laws IsReceipt IsDistrust 0 ⊤ rules v (AnswerSums j c.place)
    (kept-run laws IsReceipt IsDistrust 0 ⊤ rules c.asked asked
    (kept-event laws IsReceipt IsDistrust 0 ⊤ rules u (AskSums i)
    (kept-run laws IsReceipt IsDistrust 0 ⊤ rules c.before w forms
    (λ event d. admits event (in-comparison p events c event (inl d)))) tt)
    (λ event d. admits event (in-comparison p events c event (inr (inl d))))) tt
    in
    let own : IsPartOf (u.now i) (end.now i) =
    part-trans (u.now i) (v.now i) (end.now i)
    (part-trans (u.now i) (asked.now i) (v.now i) (part-event laws rules u i (AskSums i) (λ e. cc))
    (part-run laws rules i c.asked asked still.before_marks))
    (part-trans (v.now i) (z.now i) (end.now i) (part-event laws rules v i (AnswerSums j c.place) (λ e. cc))
    (part-run laws rules i c.after z still.after_them))
    in
    let given : IsPartOf (v.now j) (z.now j) = part-event laws rules v j (AnswerSums j c.place) (λ e. cc) in
    let brings : (full : Bool) (bucket : ℕ) → bucket ≤ 255 → ExchangeOf full rules z (about p bucket) c.after
    → HasAll bucket (shown_with full (v.now j)) (end.now i) =
    λ full bucket few exchange.
    has-more bucket (shown_with full (v.now j)) (shown_with full (z.now j)) (end.now i) (end.now i) (part-shown full (v.now j) (z.now j) given)
    (exchange-brings full laws rules z (about p bucket) c.after (record { asker = are.asker; answerer = are.answerer; bucket = few }) exchange formed
    (λ event d. admits event (in-comparison p events c event (inr (inr d)))) still.after_them still.other)
    (part-refl (end.now i))
    in
    subst (λ (t : World). HasAll b (v.now j) (t.now i)) (sym (comparison-run p events rules w c)) (record {
      receipts = λ r h e. elim (x.buckets b small) [
        | inl same ↦
            let found = held-from (u.now i) b (receipt_id_of r)
            (subst (λ ids. Contains ids (receipt_id_of r)) (sym same) (held-to (v.now j) b r h e)) in
            (found.0, own.receipts found.0 found.1, found.2)
        | inr k ↦ (brings k.0 b small k.1).receipts r (shown-held k.0 (v.now j) r h) e
      ];
      distrusts = λ y h. elim x.records [
        | inl same ↦ own.distrusts y (subst (λ ys. Contains ys y) (sym same) h)
        | inr k ↦ (brings true k.0 k.1 k.2).distrusts y h
      ];
    })

-- In the end a replica has all that another one held of a bucket at the start.
from-other : (laws : Laws) (rules : Rules) (w : World) (since : List Event) (i j b : ℕ) → IsStart rules w
    → Settles rules w since → i < rules.replicas → j < rules.replicas → i ≢ j → b ≤ 255
    → HasAll b (w.now j) ((run_from rules w since).now i)
from-other laws rules w since i j b start s l m d n =
    let p : Peers = record { asker = i; answerer = j } in
    let are : ArePeers rules.replicas p = record { asker = l; answerer = m } in
    let admits : (event : Event) → Contains since event → Admits rules IsReceipt IsDistrust 0 ⊤ event =
    λ event h. quiet-admits_all rules IsReceipt IsDistrust (length w.sent) event (s.quiet event h) in
    elim (s.pulled p are d) [
      | inl exchanges ↦ exchange-brings true laws rules w (about p b) since (record { asker = l; answerer = m; bucket = n }) (exchanges b n)
          start.forms admits (no-restart rules w since i s) (no-restart rules w since j s)
      | inr x ↦
          let c = x.compared in
          let u = at_sums rules w c in
          let v = at_marks rules w c in
          let rests : (k : ℕ) → Lacks c.before (Restart k) × Lacks c.asked (Restart k) × Lacks c.after (Restart k) =
          λ k. (
            λ h. no-restart rules w since k s (in-comparison p since c (Restart k) (inl h)),
            λ h. no-restart rules w since k s (in-comparison p since c (Restart k) (inr (inl h))),
            λ h. no-restart rules w since k s (in-comparison p since c (Restart k) (inr (inr h))),
          ) in
          let given : IsPartOf (w.now j) (v.now j) =
          part-trans (w.now j) (u.now j) (v.now j) (part-run laws rules j c.before w (rests j).0)
          (part-trans (u.now j) ((happens rules u (AskSums i)).now j) (v.now j) (part-event laws rules u j (AskSums i) (λ e. cc))
          (part-run laws rules j c.asked (happens rules u (AskSums i)) (rests j).1))
          in
          let end = (run_from rules w since).now i in
          has-more b (w.now j) (v.now j) end end given
          (sums-bring laws rules w p b since are n x start.forms admits
          (record { before_marks = (rests i).1; after_them = (rests i).2; other = (rests j).2 })) (part-refl end)
    ]

-- in the end a replica holds all that was held anywhere
all-receipts : (laws : Laws) (rules : Rules) (w : World) (since : List Event) (i : ℕ) → IsStart rules w → Settles rules w since → i < rules.replicas
    → (r : Receipt) → IsHeld w r → Contains ((run_from rules w since).now i).held r
all-receipts laws rules w since i start s l r h =
    elim (cases_eq i h.0) [
      | inl e ↦ (part-run laws rules i since w (no-restart rules w since i s)).receipts r (subst (λ k. Contains (w.now k).held r) (sym e) h.1)
      | inr d ↦ elim (cases_lt h.0 rules.replicas) [
        | inl m ↦
            let found = (from-other laws rules w since i h.0 (bucket_of_id r) start s l m d (bucket-small r)).receipts r h.1 refl in
            let source = ((held-end laws rules w since s).now i).receipts found.0 found.1 in
            subst (Contains ((run_from rules w since).now i).held) (s.one_id source.0 h.0 found.0 r source.1 h.1 found.2) found.1
        | inr m ↦ absurd (contains-none r (subst (λ (z : State). Contains z.held r) (start.outside.now h.0 m) h.1))
      ]
    ]

-- In the end a replica holds all records that were held anywhere.
all-records : (laws : Laws) (rules : Rules) (w : World) (since : List Event) (i : ℕ) → IsStart rules w → Settles rules w since → i < rules.replicas
    → (x : Distrust) → IsRecorded w x → Contains ((run_from rules w since).now i).records x
all-records laws rules w since i start s l x h =
    elim (cases_eq i h.0) [
      | inl e ↦ (part-run laws rules i since w (no-restart rules w since i s)).distrusts x (subst (λ k. Contains (w.now k).records x) (sym e) h.1)
      | inr d ↦ elim (cases_lt h.0 rules.replicas) [
        | inl m ↦ (from-other laws rules w since i h.0 0 start s l m d (omega arith)).distrusts x h.1
        | inr m ↦ absurd (contains-none x (subst (λ (z : State). Contains z.records x) (start.outside.now h.0 m) h.1))
      ]
    ]

-- So any two replicas hold the same: both hold what was held anywhere at the start, and nothing
-- else.
pub agree : (laws : Laws) (rules : Rules) (w : World) (since : List Event) (i j : ℕ) → IsStart rules w
    → Throughout (λ k state. IsTidy (rules.limits k) state) (run_from rules w since)
    → Settles rules w since → i < rules.replicas → j < rules.replicas → (run_from rules w since).now i ≡ (run_from rules w since).now j
agree laws rules w since i j start tidy s l m =
    let end = run_from rules w since in
    let had = held-end laws rules w since s in
    let receipts : (end.now i).held ≡ (end.now j).held =
    laws.receipts.one (end.now i).held (end.now j).held
    (tidy.now i).rising (tidy.now j).rising
    (λ r. (
      λ c. all-receipts laws rules w since j start s m r ((had.now i).receipts r c),
      λ c. all-receipts laws rules w since i start s l r ((had.now j).receipts r c),
    ))
    in
    let records : (end.now i).records ≡ (end.now j).records =
    laws.records.one (end.now i).records (end.now j).records
    (tidy.now i).records_rising (tidy.now j).records_rising
    (λ x. (
      λ c. all-records laws rules w since j start s m x ((had.now i).records x c),
      λ c. all-records laws rules w since i start s l x ((had.now j).records x c),
    ))
    in
    ap₂ (λ h x. record { held = h; records = x }) receipts records
