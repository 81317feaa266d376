-- A whole pull brings all that the other side held.
use Rattle.std.proofs.Common.{◌≡◌, ◌∙◌, ℕ, ◌+◌, ◌<◌, ◌≤◌, ◌⊎◌, inl, inr, true, List, [], ◌∷◌, ◌++◌, length}
use Rattle.std.proofs.Common.{refl, sym, ap, subst, arith, eq-eqb, append-nil}
use Rattle.std.specs.Prelude.{Contains, not}
use Rattle.std.specs.List.{AllByRecursion}
use Rattle.std.proofs.lemmas.Bool.{and_from, cases_Bool, cases_lt}
use Rattle.fed_config.specs.Configuration.{Configuration, config_id_of}
use Rattle.receipt_core.specs.Order.{receipt_total, distrust_total}
use Rattle.receipt_core.specs.declared.distrust.Distrust.{Distrust}
use Rattle.receipt_core.specs.Receipt.{Receipt, IsDistrust, IsReceipt, distrust_cmp, receipt_cmp, receipt_id_of}
use Rattle.receipt_core.specs.Acceptance.{Meaning, IsMeaning}
use Rattle.receipt_core.proofs.RisingFacts.{Contains-from_has, Has, Has-from_contains, same_members, with_items-has, with_items-keeps, with_items-new}
use Rattle.replica_core.specs.Convergence.{HasAll}
use Rattle.replica_core.specs.State.{State, bucket_of_id, ids_named, is_named, is_of_bucket, joined, meaning_of_state, receipts_lacking}
use Rattle.replica_core.specs.Session.{GiveMessage, give_of, state_of}
use Rattle.replica_core.proofs.BucketFacts.{bucket-small}
use Rattle.replica_core.proofs.ExchangeFacts.{lacking, named-held}
use Rattle.replica_core.proofs.ContainsFacts.{each-from, each-to, filter-from, filter-to}
use Rattle.replica_sync.specs.SessionRun.{known_run}
use Rattle.replica_sync.specs.Pulling.{HasDistinctIds, PullsAll, after_gives, have_in}
use Rattle.replica_sync.specs.Serving.{ServesAll}
use Rattle.replica_sync.proofs.UnderstandingFacts.{all-asked, receipt-of-either, record-of-either}
use Rattle.replica_sync.proofs.WelcomeFacts.{IsRisingState, exact-receipts, exact-records, meaning-within, rising-after, rising-joined, rising-meaning}
use Rattle.replica_sync.proofs.WelcomeFacts.{within-after}
use Rattle.replica_sync.proofs.WorldFacts.{GivesOf, answers-of, gives-given}

-- ---- one answer

-- A receipt with the id of this one is held.
record HasId (state : State) (r : Receipt) : Type 0 where
  pub it : Receipt
  pub held : Has state.held it
  pub id : receipt_id_of it ≡ receipt_id_of r

-- an id that a have names is that of a receipt that the asker holds
has-id : (state : State) (bucket : ℕ) (r : Receipt) → is_named (ids_named state bucket) r ≡ true → HasId state r
has-id state bucket r named =
    let source = named-held state bucket r named in
    record { it = source.0; held = Has-from_contains state.held source.0 source.1; id = source.2 }

-- the receipts that the answer of the other gives are receipts
given-receipts : (c : Configuration) (k : Meaning) (state : State) (bucket : ℕ) → IsMeaning k
    → AllByRecursion IsReceipt (give_of k (have_in c state bucket)).content.held
given-receipts c k state bucket valid =
    each-to IsReceipt (receipts_lacking (state_of k) bucket (ids_named state bucket))
    (λ s h. each-from IsReceipt k.held valid.receipts s (filter-from (lacking state bucket) k.held s h).0)

-- The answer brings each of the bucket's receipts that the other holds and whose id is not held.
answer-brings : (c : Configuration) (k : Meaning) (state : State) (bucket : ℕ) (r : Receipt) → IsMeaning k → AllByRecursion IsReceipt state.held
    → Has k.held r → bucket_of_id r ≡ bucket → HasId (joined state (give_of k (have_in c state bucket)).content) r
answer-brings c k state bucket r valid own has here =
    let gain = (give_of k (have_in c state bucket)).content in
    elim (cases_Bool (is_named (ids_named state bucket) r)) [
      | inl named ↦
          let known = has-id state bucket r named in
          record { it = known.it; held = with_items-keeps receipt_cmp gain.held state.held known.it known.held; id = known.id }
      | inr unnamed ↦
          let sent : Contains gain.held r =
          filter-to (lacking state bucket) k.held r (Contains-from_has k.held r has)
          (and_from (is_of_bucket bucket r) (not (is_named (ids_named state bucket) r)) (eq-eqb (bucket_of_id r) bucket here) (ap not unnamed)) in
          record {
            it = r;
            held = with_items-new IsReceipt receipt_cmp exact-receipts gain.held state.held (given-receipts c k state bucket valid) own r
                (Has-from_contains gain.held r sent);
            id = refl;
          }
    ]

-- ---- all answers

-- After the answers about the buckets from this one on, each receipt of these buckets is held, or one with its id.
receipts-brought : (c : Configuration) (k : Meaning) (bucket : ℕ) (state : State) (gives : List GiveMessage) (r : Receipt) → IsMeaning k
    → IsRisingState state → IsMeaning (meaning_of_state c (after_gives state gives)) → GivesOf c k bucket state gives
    → Has k.held r → bucket ≤ bucket_of_id r → bucket_of_id r < bucket + length gives → HasId (after_gives state gives) r
receipts-brought c k bucket state [] r valid rising final given has low high = absurd (omega (arith, low, high))
receipts-brought c k bucket state (a ∷ gives) r valid rising final given has low high =
    elim (cases_lt bucket (bucket_of_id r)) [
      | inl later ↦ receipts-brought c k (bucket + 1) (joined state a.content) gives r valid (rising-joined state a.content rising) final
          given.1 has (omega (arith, later)) (omega (arith, high))
      | inr here ↦
          let whole = after_gives state (a ∷ gives) in
          let own = (meaning-within c state whole (within-after state (a ∷ gives)) rising final).receipts in
          let one = answer-brings c k state bucket r valid own has (omega (arith, here, low)) in
          let taken = subst (λ (x : GiveMessage). HasId (joined state x.content) r) (sym given.0) one in
          record { it = taken.it; held = (within-after (joined state a.content) gives).receipts taken.it taken.held; id = taken.id }
    ]

-- After at least one answer each record of the other is held.
records-brought : (c : Configuration) (k : Meaning) (bucket : ℕ) (state : State) (gives : List GiveMessage) (x : Distrust) → IsMeaning k
    → IsRisingState state → IsMeaning (meaning_of_state c (after_gives state gives)) → GivesOf c k bucket state gives
    → 0 < length gives → Has k.records x → Has (after_gives state gives).records x
records-brought c k bucket state [] x valid rising final given some has = absurd (omega (arith, some))
records-brought c k bucket state (a ∷ gives) x valid rising final given some has =
    let whole = after_gives state (a ∷ gives) in
    let own = (meaning-within c state whole (within-after state (a ∷ gives)) rising final).distrusts in
    let one : Has (joined state (give_of k (have_in c state bucket)).content).records x =
    with_items-new IsDistrust distrust_cmp exact-records k.records state.records valid.distrusts own x has in
    (within-after (joined state a.content) gives).records x (subst (λ (y : GiveMessage). Has (joined state y.content).records x) (sym given.0) one)

-- ---- a whole pull

module _ (m k held : Meaning) (asked replied rest : List ℕ) (count : ℕ) (valid : IsMeaning m) (other : IsMeaning k) (kept : IsMeaning held)
    (same : config_id_of m.config ≡ config_id_of k.config) (all : ServesAll (known_run asked replied) k count)
    (pulls : PullsAll (known_run (replied ++ rest) asked) m held) where
  abbrev final : State
  final = after_gives (state_of m) pulls.gives

  final-valid : IsMeaning (meaning_of_state m.config final)
  final-valid = subst IsMeaning pulls.meaning kept

  given : GivesOf m.config k 0 (state_of m) pulls.gives
  given =
      answers-of m.config k 0 (state_of m) pulls.gives [] []
      (append-nil pulls.gives ∙ gives-given m k held asked replied rest count valid other kept same all pulls)

  receipt-brought : (r : Receipt) → Has k.held r → HasId final r
  receipt-brought r has =
      let many = pulls.all in
      let small = bucket-small r in
      receipts-brought m.config k 0 (state_of m) pulls.gives r other (rising-meaning m valid) final-valid given has (omega arith) (omega (arith, many, small))

  record-brought : (x : Distrust) → Has k.records x → Has final.records x
  record-brought x has =
      let many = pulls.all in
      records-brought m.config k 0 (state_of m) pulls.gives x other (rising-meaning m valid) final-valid given (omega (arith, many)) has

  final-is : final ≡ state_of held
  final-is = ap state_of (sym pulls.meaning)

  -- the clause `brings`: of each bucket all that the other held is held, or a receipt with the same id
  pub all-brought : (bucket : ℕ) → HasAll bucket (state_of k) (state_of held)
  all-brought bucket =
      subst (HasAll bucket (state_of k)) final-is
      (record {
        receipts = λ r h e. let brought = receipt-brought r (Has-from_contains k.held r h) in
            (brought.it, Contains-from_has final.held brought.it brought.held, brought.id);
        distrusts = λ x h. Contains-from_has final.records x (record-brought x (Has-from_contains k.records x h));
      })

  -- a receipt of one of both is in what both held together
  in-both : (r : Receipt) → Has m.held r ⊎ Has k.held r → Has (joined (state_of m) (state_of k)).held r
  in-both r (inl own) = with_items-keeps receipt_cmp k.held m.held r own
  in-both r (inr theirs) = with_items-new IsReceipt receipt_cmp exact-receipts k.held m.held other.receipts valid.receipts r theirs

  -- so is a record
  record-in-both : (x : Distrust) → Has m.records x ⊎ Has k.records x → Has (joined (state_of m) (state_of k)).records x
  record-in-both x (inl own) = with_items-keeps distrust_cmp k.records m.records x own
  record-in-both x (inr theirs) = with_items-new IsDistrust distrust_cmp exact-records k.records m.records other.distrusts valid.distrusts x theirs

  -- what is held after the pull was held by one of both
  final-of-either : (r : Receipt) → Has final.held r → Has m.held r ⊎ Has k.held r
  final-of-either r has =
      receipt-of-either (state_of m) k (all-asked m pulls.gives ++ []) r
      (subst (λ (rs : List GiveMessage). Has (after_gives (state_of m) rs).held r)
      (gives-given m k held asked replied rest count valid other kept same all pulls) has)

  final-record-of-either : (x : Distrust) → Has final.records x → Has m.records x ⊎ Has k.records x
  final-record-of-either x has =
      record-of-either (state_of m) k (all-asked m pulls.gives ++ []) x
      (subst (λ (rs : List GiveMessage). Has (after_gives (state_of m) rs).records x)
      (gives-given m k held asked replied rest count valid other kept same all pulls) has)

  -- if ids differ, the receipt that was brought is the one that the other held
  receipt-itself : HasDistinctIds (joined (state_of m) (state_of k)) → (r : Receipt) → Has k.held r → Has final.held r
  receipt-itself distinct r has =
      let brought = receipt-brought r has in
      let both = joined (state_of m) (state_of k) in
      let equal : brought.it ≡ r =
      distinct brought.it r (Contains-from_has both.held brought.it (in-both brought.it (final-of-either brought.it brought.held)))
      (Contains-from_has both.held r (in-both r (inr has))) brought.id in
      subst (Has final.held) equal brought.held

  -- the clause `joins`: what is held is what both held together, and nothing else
  pub both-held : HasDistinctIds (joined (state_of m) (state_of k)) → state_of held ≡ joined (state_of m) (state_of k)
  both-held distinct =
      let both = joined (state_of m) (state_of k) in
      let here = rising-after (state_of m) pulls.gives (rising-meaning m valid) in
      let there = rising-joined (state_of m) (state_of k) (rising-meaning m valid) in
      let before = within-after (state_of m) pulls.gives in
      let receipts : final.held ≡ both.held =
      same_members receipt_cmp receipt_total final.held both.held here.receipts there.receipts
      (λ r h. in-both r (final-of-either r h))
      (λ r h. elim (with_items-has receipt_cmp k.held m.held r h) [ inl theirs ↦ receipt-itself distinct r theirs | inr own ↦ before.receipts r own ]) in
      let records : final.records ≡ both.records =
      same_members distrust_cmp distrust_total final.records both.records here.records there.records
      (λ x h. record-in-both x (final-record-of-either x h))
      (λ x h. elim (with_items-has distrust_cmp k.records m.records x h) [ inl theirs ↦ record-brought x theirs | inr own ↦ before.records x own ]) in
      sym final-is ∙ (λ i. record { held = receipts i; records = records i })
