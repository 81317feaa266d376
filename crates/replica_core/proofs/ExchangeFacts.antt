-- What one exchange about a bucket gives.
use Rattle.std.proofs.Common.{◌≡◌, ◌≢◌, ℕ, ◌<◌, ◌≤◌, inl, inr, Bool, true, false, ◌&&◌, nat_le, List, [], ◌∷◌, ◌++◌, length, map, Option}
use Rattle.std.proofs.Common.{refl, sym, ap, ◌∙◌, subst, le-leb, eq-eqb}
use Rattle.std.specs.Prelude.{Contains, filter, slice_get, Some, not, bytes_eq}
use Rattle.std.specs.List.{AllByRecursion}
use Rattle.std.proofs.lemmas.Bool.{cases_Bool, and_from}
use Rattle.std.proofs.lemmas.Slice.Eq.{bytes_eq-Decides}
use Rattle.receipt_core.specs.Receipt.{Receipt, IsReceipt, IsDistrust, receipt_id_of}
use Rattle.replica_core.specs.State.{State, id_cmp, joined, is_within_limits, bucket_of_id, is_of_bucket, is_named, ids_held, ids_named}
use Rattle.replica_core.specs.State.{most_named, receipts_lacking}
use Rattle.replica_core.specs.World.{Message, have_sent, give_sent, World, Rules, with_state, sends, where_so, sends_give}
use Rattle.replica_core.specs.World.{takes_whole, gained, apply, happens, is_replica}
use Rattle.replica_core.specs.World.{without_records}
use Rattle.replica_core.specs.Convergence.{Inquiry, IsInquiry, ExchangeOf, at_have, at_give, at_taking, after_taking, HasAll, IsPartOf}
use Rattle.replica_core.specs.Convergence.{answer_with, shown_with}
use Rattle.replica_core.specs.declared.event.Event.{Event}
use Rattle.replica_core.specs.declared.event.Event.TheVariants.{Ask, Answer, AnswerReceipts, Absorb, Restart}
use Rattle.replica_core.proofs.ContainsFacts.{filter-from, filter-to, map-from, any-from, each-to, get-new, contains-none, take-from}
use Rattle.replica_core.proofs.JoinLawFacts.{Laws, Keeps, joined-only}
use Rattle.replica_core.proofs.KeptFacts.{keeps-without}
use Rattle.replica_core.proofs.EventFacts.{at-here, part-trans, part-event, part-run, sent-stays, replica-true}

-- ---- one event

-- the world with one message more
abbrev pub with_message : World → Message → World
with_message w message = record w { sent = w.sent ++ message ∷ [] }

-- what a replica answers to a have about the bucket that names the ids
abbrev pub content_of : State → ℕ → List (List ℕ) → State
content_of state b ids = record { held = receipts_lacking state b ids; records = state.records }

-- A replica that asks sends a have.
pub asked-is : (rules : Rules) (w : World) (i b : ℕ) → i < rules.replicas → b ≤ 255
    → happens rules w (Ask i b) ≡ with_message w (have_sent i b (ids_named (w.now i) b))
asked-is rules w i b l m =
    ap (λ (t : Bool). apply rules.limits w (where_so t (sends (have_sent i b (ids_named (w.now i) b)))))
    (and_from (is_replica rules i) (nat_le b 255) (replica-true rules i l) (le-leb b 255 m))

-- A replica that answers a have sends what it has of it.
pub answered-is : (rules : Rules) (w : World) (i j b k : ℕ) (ids : List (List ℕ)) → j < rules.replicas → slice_get w.sent k ≡ Some (have_sent i b ids)
    → happens rules w (Answer j k) ≡ with_message w (give_sent j k (content_of (w.now j) b ids))
answered-is rules w i j b k ids l e =
    ap (λ (t : Bool). apply rules.limits w (where_so t (sends_give (w.now j) j k (slice_get w.sent k)))) (replica-true rules j l)
    ∙ ap (λ (f : Option Message). apply rules.limits w (sends_give (w.now j) j k f)) e

-- So does one that answers it without records.
pub receipts-is : (rules : Rules) (w : World) (i j b k : ℕ) (ids : List (List ℕ)) → j < rules.replicas → slice_get w.sent k ≡ Some (have_sent i b ids)
    → happens rules w (AnswerReceipts j k) ≡ with_message w (give_sent j k (content_of (without_records (w.now j)) b ids))
receipts-is rules w i j b k ids l e =
    ap (λ (t : Bool). apply rules.limits w (where_so t (sends_give (without_records (w.now j)) j k (slice_get w.sent k)))) (replica-true rules j l)
    ∙ ap (λ (f : Option Message). apply rules.limits w (sends_give (without_records (w.now j)) j k f)) e

-- So it is for both kinds of answer.
pub answered-with : (full : Bool) (rules : Rules) (w : World) (i j b k : ℕ) (ids : List (List ℕ)) → j < rules.replicas
    → slice_get w.sent k ≡ Some (have_sent i b ids)
    → happens rules w (answer_with full j k) ≡ with_message w (give_sent j k (content_of (shown_with full (w.now j)) b ids))
answered-with true rules w i j b k ids l e = answered-is rules w i j b k ids l e
answered-with false rules w i j b k ids l e = receipts-is rules w i j b k ids l e

-- A replica that takes an answer within the limits joins its content.
pub absorbed-is : (rules : Rules) (w : World) (i j n k : ℕ) (content : State) → i < rules.replicas → slice_get w.sent n ≡ Some (give_sent j k content)
    → is_within_limits (rules.limits i) (joined (w.now i) content) ≡ true
    → happens rules w (Absorb i n) ≡ with_state w i (joined (w.now i) content)
absorbed-is rules w i j n k content l e t =
    ap (λ (b : Bool). apply rules.limits w (where_so b (takes_whole i (slice_get w.sent n)))) (replica-true rules i l)
    ∙ ap (λ (f : Option Message). apply rules.limits w (takes_whole i f)) e
    ∙ ap (λ (b : Bool). gained b w i (joined (w.now i) content)) t

-- the have is at its place
pub asked-here : (rules : Rules) (w : World) (i b : ℕ) → i < rules.replicas → b ≤ 255
    → slice_get (happens rules w (Ask i b)).sent (length w.sent) ≡ Some (have_sent i b (ids_named (w.now i) b))
asked-here rules w i b l m =
    ap (λ (v : World). slice_get v.sent (length w.sent)) (asked-is rules w i b l m) ∙ get-new w.sent (have_sent i b (ids_named (w.now i) b))

-- The answer is at its place.
answered-here : (full : Bool) (rules : Rules) (w : World) (i j b k : ℕ) (ids : List (List ℕ)) → j < rules.replicas
    → slice_get w.sent k ≡ Some (have_sent i b ids)
    → slice_get (happens rules w (answer_with full j k)).sent (length w.sent) ≡ Some (give_sent j k (content_of (shown_with full (w.now j)) b ids))
answered-here full rules w i j b k ids l e =
    ap (λ (v : World). slice_get v.sent (length w.sent)) (answered-with full rules w i j b k ids l e)
    ∙ get-new w.sent (give_sent j k (content_of (shown_with full (w.now j)) b ids))

-- The taking of an answer within the limits joins its content.
absorbed-here : (rules : Rules) (w : World) (i j n k : ℕ) (content : State) → i < rules.replicas → slice_get w.sent n ≡ Some (give_sent j k content)
    → is_within_limits (rules.limits i) (joined (w.now i) content) ≡ true → (happens rules w (Absorb i n)).now i ≡ joined (w.now i) content
absorbed-here rules w i j n k content l e t =
    ap (λ (v : World). v.now i) (absorbed-is rules w i j n k content l e t) ∙ at-here i (joined (w.now i) content) w.now

-- ---- what an exchange gives

-- a held id is that of a held receipt
pub held-from : (state : State) (b : ℕ) (id : List ℕ) → Contains (ids_held state b) id
    → (s : Receipt) × Contains state.held s × (receipt_id_of s ≡ id)
held-from state b id held =
    elim (joined-only id_cmp (map receipt_id_of (filter (is_of_bucket b) state.held)) [] id held) [
      | inl c ↦
          let source = map-from receipt_id_of (filter (is_of_bucket b) state.held) id c in
          (source.0, (filter-from (is_of_bucket b) state.held source.0 source.1).0, source.2)
      | inr c ↦ absurd (contains-none id c)
    ]

-- an id that a have names is that of a receipt that the asker held
pub named-held : (state : State) (b : ℕ) (r : Receipt) → is_named (ids_named state b) r ≡ true
    → (s : Receipt) × Contains state.held s × (receipt_id_of s ≡ receipt_id_of r)
named-held state b r e =
    let found = any-from (λ id. bytes_eq id (receipt_id_of r)) (ids_named state b) e in
    let held = take-from most_named (ids_held state b) found.0 found.1 in
    let same : found.0 ≡ receipt_id_of r = (bytes_eq-Decides found.0 (receipt_id_of r)).0 found.2 in
    let source = held-from state b found.0 held in
    (source.0, source.1, source.2 ∙ same)

-- whether the receipt is of the bucket and not among those that the asker named
abbrev pub lacking : State → ℕ → Receipt → Bool
lacking asking b r = is_of_bucket b r && not (is_named (ids_named asking b) r)

-- the asker held what it named, and takes the others
gives : (laws : Laws) (i b : ℕ) (asking given before : State) → IsPartOf asking before → Keeps IsReceipt IsDistrust given → Keeps IsReceipt IsDistrust before
    → HasAll b given (joined before (content_of given b (ids_named asking b)))
gives laws i b asking given before part forms own = record {
  receipts = λ r c e.
      elim (cases_Bool (is_named (ids_named asking b) r)) [
        | inl named ↦
            let s = named-held asking b r named in
            (s.0, laws.receipts.old (receipts_lacking given b (ids_named asking b)) before.held s.0 (part.receipts s.0 s.1), s.2)
        | inr unnamed ↦
            let sent : Contains (receipts_lacking given b (ids_named asking b)) r =
            filter-to (lacking asking b) given.held r c
            (and_from (is_of_bucket b r) (not (is_named (ids_named asking b) r)) (eq-eqb (bucket_of_id r) b e)
            (ap not unnamed)) in
            let each : AllByRecursion IsReceipt (receipts_lacking given b (ids_named asking b)) =
            each-to IsReceipt (receipts_lacking given b (ids_named asking b))
            (λ s d. forms.receipts s (filter-from (lacking asking b) given.held s d).0) in
            (r, laws.receipts.new (receipts_lacking given b (ids_named asking b)) before.held r each (each-to IsReceipt before.held own.receipts) sent, refl)
      ];
  distrusts = λ x c. laws.records.new given.records before.records x (each-to IsDistrust given.records forms.records)
      (each-to IsDistrust before.records own.records) c;
}

-- What is so of all that is held is so of what is shown of it.
keeps-shown : (full : Bool) (state : State) → Keeps IsReceipt IsDistrust state → Keeps IsReceipt IsDistrust (shown_with full state)
keeps-shown true state s = s
keeps-shown false state s = keeps-without IsReceipt IsDistrust state s

-- An answer is not a restart.
pub no-restart-with : (full : Bool) (i j k : ℕ) → answer_with full j k ≢ Restart i
no-restart-with true i j k e = cc
no-restart-with false i j k e = cc

-- After the exchange the asker has what the answerer showed of the bucket.
pub exchange-gives : (full : Bool) (laws : Laws) (rules : Rules) (start : World) (inquiry : Inquiry) (events : List Event)
    → IsInquiry rules.replicas inquiry → (x : ExchangeOf full rules start inquiry events)
    → Keeps IsReceipt IsDistrust ((at_give rules start x.course).now inquiry.answerer)
    → Keeps IsReceipt IsDistrust ((at_taking rules start x.course).now inquiry.asker)
    → HasAll inquiry.bucket (shown_with full ((at_give rules start x.course).now inquiry.answerer))
    ((after_taking rules start x.course).now inquiry.asker)
exchange-gives full laws rules start inquiry events is x forms own =
    let i = inquiry.asker in
    let j = inquiry.answerer in
    let b = inquiry.bucket in
    let w = at_have rules start x.course in
    let v = at_give rules start x.course in
    let u = at_taking rules start x.course in
    let q : slice_get v.sent x.course.have_place ≡ Some (have_sent i b (ids_named (w.now i) b)) =
    sent-stays rules x.course.asked (happens rules w (Ask i b)) x.course.have_place (have_sent i b (ids_named (w.now i) b))
    (subst (λ k. slice_get (happens rules w (Ask i b)).sent k ≡ Some (have_sent i b (ids_named (w.now i) b))) (sym x.asked_at)
    (asked-here rules w i b is.asker is.bucket))
    in
    let a : slice_get u.sent x.course.give_place
    ≡ Some (give_sent j x.course.have_place (content_of (shown_with full (v.now j)) b (ids_named (w.now i) b))) =
    sent-stays rules x.course.answered (happens rules v (answer_with full j x.course.have_place)) x.course.give_place
    (give_sent j x.course.have_place (content_of (shown_with full (v.now j)) b (ids_named (w.now i) b)))
    (subst (λ k. slice_get (happens rules v (answer_with full j x.course.have_place)).sent k
    ≡ Some (give_sent j x.course.have_place (content_of (shown_with full (v.now j)) b (ids_named (w.now i) b)))) (sym x.answered_at)
    (answered-here full rules v i j b x.course.have_place (ids_named (w.now i) b) is.answerer q))
    in
    let part : IsPartOf (w.now i) (u.now i) =
    part-trans (w.now i) (v.now i) (u.now i)
    (part-trans (w.now i) ((happens rules w (Ask i b)).now i) (v.now i) (part-event laws rules w i (Ask i b) (λ e. cc))
    (part-run laws rules i x.course.asked (happens rules w (Ask i b)) x.no_restart))
    (part-trans (v.now i) ((happens rules v (answer_with full j x.course.have_place)).now i) (u.now i)
    (part-event laws rules v i (answer_with full j x.course.have_place) (no-restart-with full i j x.course.have_place))
    (part-run laws rules i x.course.answered (happens rules v (answer_with full j x.course.have_place)) x.none_later))
    in
    subst (HasAll b (shown_with full (v.now j)))
    (sym (absorbed-here rules u i j x.course.give_place x.course.have_place
    (content_of (shown_with full (v.now j)) b (ids_named (w.now i) b)) is.asker a
    (x.whole (content_of (shown_with full (v.now j)) b (ids_named (w.now i) b)) a)))
    (gives laws i b (w.now i) (shown_with full (v.now j)) (u.now i) part (keeps-shown full (v.now j) forms) own)
