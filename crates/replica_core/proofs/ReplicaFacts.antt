-- What closures in memory show of a world, and what events leave of that.
use Rattle.std.proofs.Common.{◌≡◌, ℕ, ◌-◌, ◌<◌, inl, inr, Bool, true, false, cond, ◌&&◌, List, [], ◌∷◌, ◌++◌, length}
use Rattle.std.proofs.Common.{map, take, get_or, refl, sym, ap, ◌∙◌, subst, arith}
use Rattle.std.specs.Prelude.{slice_get, Option, Some, None, Ok, Err, Result, OnOk}
use Rattle.std.specs.List.{AllByRecursion}
use Rattle.std.specs.List.Sorted.{IsStrictlySortedBy}
use Rattle.std.proofs.lemmas.Bool.{cases_Bool, cases_eq}
use Rattle.std.proofs.lemmas.List.{map-append}
use Rattle.std.proofs.lemmas.Result.{on_ok_weaker}
use Rattle.fed_config.specs.Configuration.{Configuration}
use Rattle.receipt_core.specs.declared.distrust.Distrust.{Distrust}
use Rattle.receipt_core.specs.Receipt.{Receipt, receipt_cmp, distrust_cmp}
use Rattle.receipt_core.specs.Acceptance.{Meaning, IsMeaning}
use Rattle.closure_core.specs.Changes.{empty_of}
use Rattle.replica_core.specs.State.{State, no_state, joined, is_within_limits, receipts_lacking, first_of, meaning_of_state}
use Rattle.replica_core.specs.Session.{state_of}
use Rattle.replica_core.specs.World.{Message, have_sent, give_sent, World, rules_of, Effect, gains, sends, saves, restarts, where_so, sends_give, takes_whole}
use Rattle.replica_core.specs.World.{takes_part, at_replica, gained, apply, happens, is_replica, is_fitting, is_known, AreOf, MeansState}
use Rattle.replica_core.specs.Inside.ReplicasInMemory.{message_of, give_in_message, have_in_message, CanHold, CanHoldRecords, IsSound, Plays, MeansEvent}
use Rattle.replica_core.specs.declared.event.Event.{Event}
use Rattle.replica_core.specs.World.{sums_sent, marks_sent, without_records}
use Rattle.replica_core.specs.declared.event.Event.TheVariants.{Take, Revoke, Answer, Absorb, Part, Join}
use Rattle.replica_core.specs.declared.event.Event.TheVariants.{AnswerReceipts}
use Rattle.replica_core.specs.declared.replicas_in_memory.MemoryReplicas.{MemoryReplicas}
use Rattle.replica_core.specs.declared.message.Message.{Message as Sent}
use Rattle.replica_core.proofs.EventFacts.{at-here, at-other, replica-true}
use Rattle.replica_core.proofs.SoundFacts.{one-rising, sound-at, can-take, knows-take, sound-give}
use Rattle.replica_core.proofs.WorldLawFacts.{fits-from, knows-from}
use Rattle.fed_config.specs.declared.limits.Limits.{Limits}
use Rattle.receipt_core.proofs.LimitFacts.{receipt_limit-least, record_limit-least}

-- ---- replicas

-- To give a replica the state that it has changes nothing.
stays : (i : ℕ) (states : ℕ → State) (j : ℕ) → at_replica i (states i) states j ≡ states j
stays i states j =
    elim (cases_eq j i) [
      | inl e ↦ subst (λ k. at_replica i (states i) states k ≡ states k) (sym e) (at-here i (states i) states)
      | inr d ↦ at-other j i (states i) states d
    ]

-- ---- what is sent, saved, and read back

module _ {A : Type 0} (meaning : A → Meaning) (config : Configuration) (n : ℕ) where
  -- What holds of all items, and of one more, holds of the longer list.
  all-more : {X : Type 0} (P : X → Type 0) (xs : List X) (x : X) → AllByRecursion P xs → P x → AllByRecursion P (xs ++ x ∷ [])
  all-more P [] x h p = (p, tt)
  all-more P (y ∷ xs) x h p = (h.0, all-more P xs x h.1 p)

  -- The closures still represent the world after a replica sent a message.
  pub plays-sends : (old new : MemoryReplicas A) (w : World) (i : ℕ) (stated : Sent) (message : Message) → i < n → Plays meaning config n old w
      → new.held.items ≡ old.held.items → new.saved.items ≡ old.saved.items
      → new.sent.items ≡ old.sent.items ++ stated ∷ [] → message_of stated ≡ message → IsSound config message
      → Plays meaning config n new (apply (rules_of config n).limits w (where_so (is_replica (rules_of config n) i) (sends message)))
  plays-sends old new w i stated message l h held saved sent says sound =
      subst (λ b. Plays meaning config n new (apply (rules_of config n).limits w (where_so b (sends message))))
      (sym (replica-true (rules_of config n) i l)) (record {
        held = subst (λ closures. AreOf (MeansState meaning config) n closures w.now) (sym held) h.held;
        saved = subst (λ closures. AreOf (MeansState meaning config) n closures w.saved) (sym saved) h.saved;
        sent = ap (map message_of) sent ∙ map-append message_of old.sent.items (stated ∷ []) ∙ (λ ι. h.sent ι ++ says ι ∷ []);
        sound = all-more (IsSound config) w.sent message h.sound sound;
      })

  -- The closures still represent the world after a replica saved.
  pub plays-saves : (b : Bool) (limits : ℕ → Limits) (old new : MemoryReplicas A) (w : World) (i : ℕ) → Plays meaning config n old w
      → new.held.items ≡ old.held.items → new.sent.items ≡ old.sent.items
      → AreOf (MeansState meaning config) n new.saved.items (cond b (at_replica i (w.now i) w.saved) w.saved) → Plays meaning config n new
      (apply limits w (where_so b (saves i)))
  plays-saves true limits old new w i h held sent saved = record {
    held = subst (λ closures. AreOf (MeansState meaning config) n closures w.now) (sym held) h.held;
    saved = saved;
    sent = ap (map message_of) sent ∙ h.sent;
    sound = h.sound;
  }
  plays-saves false limits old new w i h held sent saved = record {
    held = subst (λ closures. AreOf (MeansState meaning config) n closures w.now) (sym held) h.held;
    saved = saved;
    sent = ap (map message_of) sent ∙ h.sent;
    sound = h.sound;
  }

  -- The closures still represent the world after a replica restarted.
  pub plays-restarts : (b : Bool) (limits : ℕ → Limits) (old new : MemoryReplicas A) (w : World) (i : ℕ) → Plays meaning config n old w
      → new.saved.items ≡ old.saved.items → new.sent.items ≡ old.sent.items
      → AreOf (MeansState meaning config) n new.held.items (cond b (at_replica i (w.saved i) w.now) w.now) → Plays meaning config n new
      (apply limits w (where_so b (restarts i)))
  plays-restarts true limits old new w i h saved sent held = record {
    held = held;
    saved = subst (λ closures. AreOf (MeansState meaning config) n closures w.saved) (sym saved) h.saved;
    sent = ap (map message_of) sent ∙ h.sent;
    sound = h.sound;
  }
  plays-restarts false limits old new w i h saved sent held = record {
    held = held;
    saved = subst (λ closures. AreOf (MeansState meaning config) n closures w.saved) (sym saved) h.saved;
    sent = ap (map message_of) sent ∙ h.sent;
    sound = h.sound;
  }

-- ---- what events result in

-- What a call does in each world that the closures represent is what the event does.
pub on-all : {E : Type 0} {V : Type 0} {A : Type 0} (meaning : A → Meaning) (config : Configuration) (old new : MemoryReplicas A)
    (event : Event) (result : Result V E)
    → ((n : ℕ) (w : World) → Plays meaning config n old w
    → OnOk result (Plays meaning config n new (happens (rules_of config n) w event)))
    → OnOk result (MeansEvent meaning config old new event)
on-all meaning config old new event (Ok v) h = λ n w p. h n w p
on-all meaning config old new event (Err e) h = tt

-- To gain nothing changes nothing, whether that is within the limits or not.
nothing-kept : (w : World) (i : ℕ) (b : Bool) → gained b w i (w.now i) ≡ w
nothing-kept w i true = (λ ι. record w { now = λ j. stays i w.now j ι })
nothing-kept w i false = refl

-- To gain nothing if a test passes changes nothing.
nothing-gained : (limits : ℕ → Limits) (w : World) (i : ℕ) (b : Bool) → apply limits w (where_so b (gains i no_state)) ≡ w
nothing-gained limits w i true = nothing-kept w i (is_within_limits (limits i) (joined (w.now i) no_state))
nothing-gained limits w i false = refl

-- A gain that is nothing if a test fails is one that depends on the test.
gains-where : (limits : ℕ → Limits) (w : World) (i : ℕ) (b fit : Bool) (gain whole : State) → (fit ≡ true → gain ≡ whole) → (fit ≡ false → gain ≡ no_state)
    → apply limits w (where_so b (gains i gain)) ≡ apply limits w (where_so (b && fit) (gains i whole))
gains-where limits w i true true gain whole h k = ap (λ s. apply limits w (gains i s)) (h refl)
gains-where limits w i false true gain whole h k = refl
gains-where limits w i true false gain whole h k = ap (λ s. apply limits w (gains i s)) (k refl) ∙ nothing-gained limits w i true
gains-where limits w i false false gain whole h k = refl

-- What a closure with one receipt holds is what the event of taking it gains.
pub receipt-gains : (config : Configuration) (n : ℕ) (w : World) (i : ℕ) (r : Receipt) (fresh more : Meaning) → fresh ≡ empty_of config
    → (is_fitting fresh.config r ≡ false → more ≡ fresh)
    → ((later : List Receipt) → CanHold fresh.config (fresh.held ++ r ∷ later) → more ≡ record fresh { held = fresh.held ++ r ∷ [] })
    → (more.config ≡ config) × (apply (rules_of config n).limits w (where_so (is_replica (rules_of config n) i) (gains i (state_of more))) ≡ happens
    (rules_of config n) w (Take i r))
receipt-gains config n w i r fresh more e unfit next =
    let without : is_fitting config r ≡ false → more ≡ empty_of config = subst (λ (m : Meaning). is_fitting m.config r ≡ false → more ≡ m) e unfit in
    let follows : (later : List Receipt) → CanHold config (r ∷ later) → more ≡ record { config = config; held = r ∷ []; records = [] } =
    subst (λ (m : Meaning). (later : List Receipt) → CanHold m.config (m.held ++ r ∷ later) → more ≡ record m { held = m.held ++ r ∷ [] }) e next in
    let with : is_fitting config r ≡ true → more ≡ record { config = config; held = r ∷ []; records = [] } =
    (λ t. follows [] (record { fitting = (fits-from config r t, tt); rising = one-rising receipt_cmp r; few = receipt_limit-least config })) in (
      elim (cases_Bool (is_fitting config r)) [ inl t ↦ ap (λ (m : Meaning). m.config) (with t) | inr f ↦ ap (λ (m : Meaning). m.config) (without f) ],
      gains-where (rules_of config n).limits w i (is_replica (rules_of config n) i) (is_fitting config r) (state_of more)
          (record { held = r ∷ []; records = [] }) (λ t. ap state_of (with t)) (λ f. ap state_of (without f)),
    )

-- What a closure with one record holds is what the event of distrusting it gains.
pub record-gains : (config : Configuration) (n : ℕ) (w : World) (i : ℕ) (x : Distrust) (fresh more : Meaning) → fresh ≡ empty_of config
    → (is_known fresh.config x.domain ≡ false → more ≡ fresh)
    → ((later : List Distrust) → CanHoldRecords fresh.config (fresh.records ++ x ∷ later) → more ≡ record fresh { records = fresh.records ++ x ∷ [] })
    → (more.config ≡ config) × (apply (rules_of config n).limits w (where_so (is_replica (rules_of config n) i) (gains i (state_of more))) ≡ happens
    (rules_of config n) w (Revoke i x))
record-gains config n w i x fresh more e unfit next =
    let without : is_known config x.domain ≡ false → more ≡ empty_of config = subst (λ (m : Meaning). is_known m.config x.domain ≡ false → more ≡ m) e unfit in
    let follows : (later : List Distrust) → CanHoldRecords config (x ∷ later) → more ≡ record { config = config; held = []; records = x ∷ [] } =
    subst (λ (m : Meaning). (later : List Distrust) → CanHoldRecords m.config (m.records ++ x ∷ later)
    → more ≡ record m { records = m.records ++ x ∷ [] }) e next in
    let with : is_known config x.domain ≡ true → more ≡ record { config = config; held = []; records = x ∷ [] } =
    (λ t. follows [] (record { domains = (knows-from config x.domain t, tt); rising = one-rising distrust_cmp x; few = record_limit-least config })) in (
      elim (cases_Bool (is_known config x.domain)) [ inl t ↦ ap (λ (m : Meaning). m.config) (with t) | inr f ↦ ap (λ (m : Meaning). m.config) (without f) ],
      gains-where (rules_of config n).limits w i (is_replica (rules_of config n) i) (is_known config x.domain) (state_of more)
          (record { held = []; records = x ∷ [] }) (λ t. ap state_of (with t)) (λ f. ap state_of (without f)),
    )

-- A call that does to each world what a gain does represents the event that gains that.
pub gain-follows : {E : Type 0} {V : Type 0} {A : Type 0} (meaning : A
    → Meaning) (config : Configuration) (old new : MemoryReplicas A) (event : Event) (i : ℕ) (more : Meaning)
    (result : Result V E)
    → ((n : ℕ) (w : World) (c : Configuration) → more.config ≡ c → Plays meaning c n old w
    → OnOk result
    (Plays meaning c n new (apply (rules_of c n).limits w (where_so (is_replica (rules_of c n) i) (gains i (state_of more))))))
    → ((n : ℕ) (w : World) → Plays meaning config n old w
    → (more.config ≡ config)
    × (apply (rules_of config n).limits w (where_so (is_replica (rules_of config n) i) (gains i (state_of more)))
    ≡ happens (rules_of config n) w event))
    → OnOk result (MeansEvent meaning config old new event)
gain-follows meaning config old new event i more result h same =
    on-all meaning config old new event result (λ n w p.
    on_ok_weaker result (subst (Plays meaning config n new) (same n w p).1) (h n w config (same n w p).0 p))

-- ---- what an answer brings

-- To take a whole answer is to gain its content.
pub some-taken : (i : ℕ) (found : Option Message) (content : State) → give_in_message found ≡ Some content → takes_whole i found ≡ gains i content
some-taken i None content e = absurd (let no : None ≡ Some content = e in cc)
some-taken i (Some (have_sent asker bucket ids)) content e = absurd (let no : None ≡ Some content = e in cc)
some-taken i (Some (give_sent answerer place other)) content e = ap (gains i) (let same : Some other ≡ Some content = e in cc)
some-taken i (Some (sums_sent asker)) content e = absurd (let no : None ≡ Some content = e in cc)
some-taken i (Some (marks_sent answerer place)) content e = absurd (let no : None ≡ Some content = e in cc)

-- To take part of an answer is to gain the first entries of its content.
pub some-parted : (i m : ℕ) (found : Option Message) (content : State) → give_in_message found ≡ Some content
    → takes_part i m found ≡ gains i (first_of m content)
some-parted i m None content e = absurd (let no : None ≡ Some content = e in cc)
some-parted i m (Some (have_sent asker bucket ids)) content e = absurd (let no : None ≡ Some content = e in cc)
some-parted i m (Some (give_sent answerer place other)) content e = ap (λ s. gains i (first_of m s)) (let same : Some other ≡ Some content = e in cc)
some-parted i m (Some (sums_sent asker)) content e = absurd (let no : None ≡ Some content = e in cc)
some-parted i m (Some (marks_sent answerer place)) content e = absurd (let no : None ≡ Some content = e in cc)

-- ---- answers

-- To answer a have is to send what it does not name.
pub replied : (state : State) (j k bucket : ℕ) (ids : List (List ℕ)) (found : Option Message) → have_in_message found ≡ Some (bucket, ids)
    → sends_give state j k found ≡ sends (give_sent j k (record { held = receipts_lacking state bucket ids; records = state.records }))
replied state j k bucket ids None e = absurd (let no : None ≡ Some (bucket, ids) = e in cc)
replied state j k bucket ids (Some (have_sent asker b is)) e =
    let both : (b, is) ≡ (bucket, ids) = (let some : Some (b, is) ≡ Some (bucket, ids) = e in cc) in
    ap (λ (q : ℕ × List (List ℕ)). sends (give_sent j k (record { held = receipts_lacking state q.0 q.1; records = state.records }))) both
replied state j k bucket ids (Some (give_sent answerer place content)) e = absurd (let no : None ≡ Some (bucket, ids) = e in cc)
replied state j k bucket ids (Some (sums_sent asker)) e = absurd (let no : None ≡ Some (bucket, ids) = e in cc)
replied state j k bucket ids (Some (marks_sent answerer place)) e = absurd (let no : None ≡ Some (bucket, ids) = e in cc)

-- ---- events that gain what others hold or answered

-- A second test that passes leaves the first.
and-right : (a b : Bool) → b ≡ true → (a && b) ≡ a
and-right true b e = e
and-right false b e = refl

-- What another replica holds is what the event of joining it gains.
pub join-gains : (config : Configuration) (n : ℕ) (w : World) (i j : ℕ) (found more : Meaning) → j < n
    → found ≡ meaning_of_state config (w.now j) → more ≡ found
    → (more.config ≡ config) × (apply (rules_of config n).limits w (where_so (is_replica (rules_of config n) i) (gains i (state_of more))) ≡ happens
    (rules_of config n) w (Join i j))
join-gains config n w i j found more l f m =
    let e = m ∙ f in (
      ap (λ (m : Meaning). m.config) e,
      ap (λ (m : Meaning). apply (rules_of config n).limits w (where_so (is_replica (rules_of config n) i) (gains i (state_of m)))) e
          ∙ ap (λ b. apply (rules_of config n).limits w (where_so b (gains i (w.now j))))
          (sym (and-right (is_replica (rules_of config n) i) (is_replica (rules_of config n) j)
          (replica-true (rules_of config n) j l))),
    )

-- No records can be held.
no-records : (config : Configuration) → CanHoldRecords config []
unfolding IsStrictlySortedBy
no-records config = record { domains = tt; rising = tt; few = omega arith }

-- What is gathered of a whole answer is what the event of taking it gains.
pub absorb-gains : (config : Configuration) (n : ℕ) (w : World) (i k : ℕ) (content : State) (rs : List Receipt)
    (xs : List Distrust) (more : Meaning) → AllByRecursion (IsSound config) w.sent
    → give_in_message (slice_get w.sent k) ≡ Some content → rs ≡ content.held → xs ≡ content.records
    → (CanHold config rs → CanHoldRecords config xs → more ≡ record { config = config; held = rs; records = xs })
    → (more.config ≡ config) × (apply (rules_of config n).limits w (where_so (is_replica (rules_of config n) i) (gains i (state_of more))) ≡ happens
    (rules_of config n) w (Absorb i k))
absorb-gains config n w i k content rs xs more sound a re xe built =
    let can = sound-at config w.sent k content sound a in
    let e : more ≡ meaning_of_state config content =
    built (subst (CanHold config) (sym re) can.0) (subst (CanHoldRecords config) (sym xe) can.1)
    ∙ (λ ι. record { config = config; held = re ι; records = xe ι }) in (
      ap (λ (m : Meaning). m.config) e,
      ap (λ (m : Meaning). apply (rules_of config n).limits w (where_so (is_replica (rules_of config n) i) (gains i (state_of m)))) e
          ∙ ap (λ (effect : Effect). apply (rules_of config n).limits w (where_so (is_replica (rules_of config n) i) effect))
          (sym (some-taken i (slice_get w.sent k) content a)),
    )

-- What is gathered of the first entries of an answer is what the event of taking these gains.
pub part-gains : (config : Configuration) (n : ℕ) (w : World) (i k count : ℕ) (content : State) (rs : List Receipt)
    (xs : List Distrust) (more : Meaning) → AllByRecursion (IsSound config) w.sent
    → give_in_message (slice_get w.sent k) ≡ Some content → rs ≡ take (count - length content.records) content.held → xs ≡ take count content.records
    → (CanHold config rs → CanHoldRecords config xs → more ≡ record { config = config; held = rs; records = xs })
    → (more.config ≡ config)
    × (apply (rules_of config n).limits w (where_so (is_replica (rules_of config n) i) (gains i (state_of more)))
    ≡ happens (rules_of config n) w (Part i k count))
part-gains config n w i k count content rs xs more sound a re xe built =
    let can = sound-at config w.sent k content sound a in
    let e : more ≡ meaning_of_state config (first_of count content) =
    built (subst (CanHold config) (sym re) (can-take config (count - length content.records) content.held can.0))
    (subst (CanHoldRecords config) (sym xe) (knows-take config count content.records can.1))
    ∙ (λ ι. record { config = config; held = re ι; records = xe ι }) in (
      ap (λ (m : Meaning). m.config) e,
      ap (λ (m : Meaning). apply (rules_of config n).limits w (where_so (is_replica (rules_of config n) i) (gains i (state_of m)))) e
          ∙ ap (λ (effect : Effect). apply (rules_of config n).limits w (where_so (is_replica (rules_of config n) i) effect))
          (sym (some-parted i count (slice_get w.sent k) content a)),
    )

-- the answer of a replica to a have about the bucket that names the ids
abbrev give_to_have : ℕ → ℕ → ℕ → List (List ℕ) → State → Message
give_to_have i k bucket ids s = give_sent i k (record { held = receipts_lacking s bucket ids; records = s.records })

-- The closures still represent the world after a replica answered.
pub answer-follows : {A : Type 0} (meaning : A → Meaning) (config : Configuration) (n : ℕ) (old new : MemoryReplicas A)
    (w : World) (i k : ℕ) (m : Meaning) (bucket : ℕ) (ids : List (List ℕ)) (stated : Sent) → i < n
    → Plays meaning config n old w
    → m ≡ meaning_of_state config (w.now i) → IsMeaning m → have_in_message (slice_get w.sent k) ≡ Some (bucket, ids)
    → message_of stated ≡ give_sent i k (record { held = receipts_lacking (state_of m) bucket ids; records = m.records })
    → new.held.items ≡ old.held.items → new.saved.items ≡ old.saved.items → new.sent.items ≡ old.sent.items ++ stated ∷ []
    → Plays meaning config n new (happens (rules_of config n) w (Answer i k))
answer-follows meaning config n old new w i k m bucket ids stated l p e valid a says held saved sent =
    let same : state_of m ≡ w.now i = ap state_of e in
    subst (λ (effect : Effect). Plays meaning config n new
    (apply (rules_of config n).limits w (where_so (is_replica (rules_of config n) i) effect)))
    (sym (replied (w.now i) i k bucket ids (slice_get w.sent k) a))
    (plays-sends meaning config n old new w i stated (give_to_have i k bucket ids (w.now i)) l p held saved sent (says ∙ ap (give_to_have i k bucket ids) same)
    (subst (λ (s : State). IsSound config (give_to_have i k bucket ids s)) same (sound-give config m bucket ids (ap (λ (m : Meaning). m.config) e) valid)))

-- The same after it answered without records.
pub receipts-follow : {A : Type 0} (meaning : A → Meaning) (config : Configuration) (n : ℕ) (old new : MemoryReplicas A)
    (w : World) (i k : ℕ) (m : Meaning) (bucket : ℕ) (ids : List (List ℕ)) (stated : Sent) → i < n
    → Plays meaning config n old w
    → m ≡ meaning_of_state config (w.now i) → IsMeaning m → have_in_message (slice_get w.sent k) ≡ Some (bucket, ids)
    → message_of stated ≡ give_sent i k (record { held = receipts_lacking (state_of m) bucket ids; records = [] })
    → new.held.items ≡ old.held.items → new.saved.items ≡ old.saved.items → new.sent.items ≡ old.sent.items ++ stated ∷ []
    → Plays meaning config n new (happens (rules_of config n) w (AnswerReceipts i k))
receipts-follow meaning config n old new w i k m bucket ids stated l p e valid a says held saved sent =
    let same : state_of m ≡ w.now i = ap state_of e in
    let given = sound-give config m bucket ids (ap (λ (m : Meaning). m.config) e) valid in
    let say : State → Message = λ s. give_to_have i k bucket ids (without_records s) in
    subst (λ (effect : Effect). Plays meaning config n new
    (apply (rules_of config n).limits w (where_so (is_replica (rules_of config n) i) effect)))
    (sym (replied (without_records (w.now i)) i k bucket ids (slice_get w.sent k) a))
    (plays-sends meaning config n old new w i stated (say (w.now i)) l p held saved sent (says ∙ ap say same)
    (subst (λ (s : State). IsSound config (say s)) same (given.0, no-records config)))

-- A closure means what the state of its number says.
pub here : {A : Type 0} (meaning : A → Meaning) (config : Configuration) (n : ℕ) (closures given : List A) (states : ℕ
    → State) (i : ℕ) (c : A) → AreOf (MeansState meaning config) n closures states → given ≡ closures → i < length given
    → c ≡ get_or given i c → (i < n) × (meaning c ≡ meaning_of_state config (states i))
here meaning config n closures given states i c h e l f =
    let inside : i < n = omega (arith, l, ap length e, h.count) in
    (inside, ap meaning (f ∙ ap (λ xs. get_or xs i c) e) ∙ h.each i c inside)
