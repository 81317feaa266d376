-- After a session that begins with sums, what is held is what both held together.
use Rattle.std.proofs.Common.{◌≡◌, ◌∙◌, ℕ, zero, suc, ◌+◌, ◌<◌, ◌⊎◌, inl, inr, Bool, true, false, List, [], ◌∷◌, length, map, get_or}
use Rattle.std.proofs.Common.{refl, sym, ap, subst, arith, eq-eqb}
use Rattle.std.specs.Prelude.{Contains, filter, not}
use Rattle.std.specs.List.{AllByRecursion}
use Rattle.std.specs.List.Sorted.{IsStrictlySortedBy}
use Rattle.std.proofs.lemmas.Bool.{and_from, cases_Bool}
use Rattle.std.proofs.lemmas.Map.Lookups.{exact_bytes}
use Rattle.receipt_core.specs.Order.{receipt_total, distrust_total}
use Rattle.receipt_core.specs.Sets.{Always}
use Rattle.receipt_core.specs.declared.distrust.Distrust.{Distrust}
use Rattle.receipt_core.specs.Receipt.{Receipt, IsDistrust, IsReceipt, distrust_cmp, receipt_cmp, receipt_id_of}
use Rattle.receipt_core.specs.Acceptance.{Meaning, IsMeaning}
use Rattle.receipt_core.proofs.LineFacts.{one_distrust, one_receipt}
use Rattle.receipt_core.proofs.RisingFacts.{Contains-from_has, Has, Has-from_contains, IsExactOn, same_members}
use Rattle.receipt_core.proofs.RisingFacts.{with_items-all, with_items-has, with_items-keeps, with_items-new, with_items-rising}
use Rattle.replica_core.specs.State.{State, bucket_of_id, id_cmp, ids_held, ids_named, is_named, is_of_bucket, joined, receipts_lacking}
use Rattle.replica_core.specs.Session.{state_of}
use Rattle.replica_core.proofs.BucketFacts.{bucket-small}
use Rattle.replica_core.proofs.ExchangeFacts.{lacking, named-held}
use Rattle.replica_core.proofs.ContainsFacts.{each-from, each-to, filter-from, filter-to, map-from, map-to}
use Rattle.bucket_sums.specs.Sums.{HasDistinctSums, marks_between}
use Rattle.bucket_sums.specs.Sessions.{after_answer, after_answers, at_least_one, buckets_asked, marked_from}
use Rattle.bucket_sums.proofs.LawFacts.{length-marks, same_ids, same_records}

-- ---- orders that distinguish

pub exact-receipts : IsExactOn IsReceipt receipt_cmp
exact-receipts a b p q e = one_receipt a b p q e

pub exact-records : IsExactOn IsDistrust distrust_cmp
exact-records a b p q e = one_distrust a b e

exact-ids : IsExactOn Always id_cmp
exact-ids a b p q e = exact_bytes a b e

-- What holds always holds of all ids.
always : (ids : List (List ℕ)) → AllByRecursion Always ids
always [] = tt
always (id ∷ ids) = (tt, always ids)

-- ---- ids of a bucket

-- The id of a receipt that is held is one of its bucket.
pub id-of-held : (state : State) (bucket : ℕ) (r : Receipt) → Has state.held r → bucket_of_id r ≡ bucket → Has (ids_held state bucket) (receipt_id_of r)
id-of-held state bucket r has here =
    let inside = filter-to (is_of_bucket bucket) state.held r (Contains-from_has state.held r has) (eq-eqb (bucket_of_id r) bucket here) in
    let ids = map receipt_id_of (filter (is_of_bucket bucket) state.held) in
    with_items-new Always id_cmp exact-ids ids [] (always ids) tt (receipt_id_of r)
    (Has-from_contains ids (receipt_id_of r) (map-to receipt_id_of (filter (is_of_bucket bucket) state.held) r inside))

-- A receipt with the id of this one is held.
pub record HasId (state : State) (r : Receipt) : Type 0 where
  pub it : Receipt
  pub held : Has state.held it
  pub id : receipt_id_of it ≡ receipt_id_of r

-- An id of a bucket is that of a receipt that is held.
pub held-of-id : (state : State) (bucket : ℕ) (r : Receipt) → Has (ids_held state bucket) (receipt_id_of r) → HasId state r
held-of-id state bucket r has =
    let ids = map receipt_id_of (filter (is_of_bucket bucket) state.held) in
    elim (with_items-has id_cmp ids [] (receipt_id_of r) has) [
      | inl one ↦
          let source = map-from receipt_id_of (filter (is_of_bucket bucket) state.held) (receipt_id_of r) (Contains-from_has ids (receipt_id_of r) one) in
          record {
            it = source.0;
            held = Has-from_contains state.held source.0 (filter-from (is_of_bucket bucket) state.held source.0 source.1).0;
            id = source.2;
          }
      | inr none ↦ absurd none
    ]

-- ---- one answer

-- receipts and records of their form, in their orders
pub record IsFormed (state : State) : Type 0 where
  pub receipts : AllByRecursion IsReceipt state.held
  pub records : AllByRecursion IsDistrust state.records
  pub rising : IsStrictlySortedBy receipt_cmp state.held
  pub records_rising : IsStrictlySortedBy distrust_cmp state.records

-- What a replica holds is such.
pub formed : (m : Meaning) → IsMeaning m → IsFormed (state_of m)
formed m valid = record { receipts = valid.receipts; records = valid.distrusts; rising = valid.rising; records_rising = valid.records_rising }

module _ (k : Meaning) (valid : IsMeaning k) where
  -- the receipts of an answer
  abbrev given : State → ℕ → List Receipt
  given state bucket = receipts_lacking (state_of k) bucket (ids_named state bucket)

  given-receipts : (state : State) (bucket : ℕ) → AllByRecursion IsReceipt (given state bucket)
  given-receipts state bucket =
      each-to IsReceipt (given state bucket)
      (λ s h. each-from IsReceipt k.held valid.receipts s (filter-from (lacking state bucket) k.held s h).0)

  -- An answer keeps the forms and the orders.
  pub formed-answer : (state : State) (bucket : ℕ) → IsFormed state → IsFormed (after_answer k state bucket)
  formed-answer state bucket own = record {
    receipts = with_items-all IsReceipt receipt_cmp (given state bucket) state.held (given-receipts state bucket) own.receipts;
    records = with_items-all IsDistrust distrust_cmp k.records state.records valid.distrusts own.records;
    rising = with_items-rising receipt_cmp receipt_total (given state bucket) state.held own.rising;
    records_rising = with_items-rising distrust_cmp distrust_total k.records state.records own.records_rising;
  }

  -- An answer brings each receipt of the bucket whose id is not held.
  brings-one : (state : State) (bucket : ℕ) (r : Receipt) → IsFormed state → Has k.held r → bucket_of_id r ≡ bucket → HasId (after_answer k state bucket) r
  brings-one state bucket r own has here =
      elim (cases_Bool (is_named (ids_named state bucket) r)) [
        | inl named ↦
            let source = named-held state bucket r named in
            record {
              it = source.0;
              held = with_items-keeps receipt_cmp (given state bucket) state.held source.0 (Has-from_contains state.held source.0 source.1);
              id = source.2;
            }
        | inr unnamed ↦
            let sent : Contains (given state bucket) r =
            filter-to (lacking state bucket) k.held r (Contains-from_has k.held r has)
            (and_from (is_of_bucket bucket r) (not (is_named (ids_named state bucket) r)) (eq-eqb (bucket_of_id r) bucket here) (ap not unnamed)) in
            record {
              it = r;
              held = with_items-new IsReceipt receipt_cmp exact-receipts (given state bucket) state.held (given-receipts state bucket) own.receipts r
                  (Has-from_contains (given state bucket) r sent);
              id = refl;
            }
      ]

  -- ---- answers about several buckets

  formed-answers : (state : State) (buckets : List ℕ) → IsFormed state → IsFormed (after_answers k state buckets)
  formed-answers state [] own = own
  formed-answers state (b ∷ buckets) own = formed-answers (after_answer k state b) buckets (formed-answer state b own)

  keeps : (state : State) (buckets : List ℕ) (r : Receipt) → Has state.held r → Has (after_answers k state buckets).held r
  keeps state [] r h = h
  keeps state (b ∷ buckets) r h = keeps (after_answer k state b) buckets r (with_items-keeps receipt_cmp (given state b) state.held r h)

  keeps-records : (state : State) (buckets : List ℕ) (x : Distrust) → Has state.records x → Has (after_answers k state buckets).records x
  keeps-records state [] x h = h
  keeps-records state (b ∷ buckets) x h = keeps-records (after_answer k state b) buckets x (with_items-keeps distrust_cmp k.records state.records x h)

  -- What is held then was held by one of both.
  of-either : (state : State) (buckets : List ℕ) (r : Receipt) → Has (after_answers k state buckets).held r → Has state.held r ⊎ Has k.held r
  of-either state [] r h = inl h
  of-either state (b ∷ buckets) r h =
      elim (of-either (after_answer k state b) buckets r h) [
        | inl first ↦
            elim (with_items-has receipt_cmp (given state b) state.held r first) [
              | inl theirs ↦
                  let back = filter-from (lacking state b) k.held r (Contains-from_has (given state b) r theirs) in
                  inr (Has-from_contains k.held r back.0)
              | inr own ↦ inl own
            ]
        | inr theirs ↦ inr theirs
      ]

  record-of-either : (state : State) (buckets : List ℕ) (x : Distrust) → Has (after_answers k state buckets).records x → Has state.records x ⊎ Has k.records x
  record-of-either state [] x h = inl h
  record-of-either state (b ∷ buckets) x h =
      elim (record-of-either (after_answer k state b) buckets x h) [
        | inl first ↦ elim (with_items-has distrust_cmp k.records state.records x first) [ inl theirs ↦ inr theirs | inr own ↦ inl own ]
        | inr theirs ↦ inr theirs
      ]

  -- Each receipt of a bucket that is asked about is held, or one with its id.
  brings : (state : State) (buckets : List ℕ) (r : Receipt) → IsFormed state → Has k.held r → Has buckets (bucket_of_id r)
      → HasId (after_answers k state buckets) r
  brings state [] r own has none = absurd none
  brings state (b ∷ buckets) r own has among =
      elim among [
        | inl here ↦
            let one = brings-one state b r own has (sym here) in
            record { it = one.it; held = keeps (after_answer k state b) buckets one.it one.held; id = one.id }
        | inr later ↦ brings (after_answer k state b) buckets r (formed-answer state b own) has later
      ]

  -- If one bucket at least is asked about, each record is held.
  brings-records : (state : State) (buckets : List ℕ) (x : Distrust) → IsFormed state → 0 < length buckets → Has k.records x
      → Has (after_answers k state buckets).records x
  brings-records state [] x own some has = absurd (omega (arith, some))
  brings-records state (b ∷ buckets) x own some has =
      keeps-records (after_answer k state b) buckets x
      (with_items-new IsDistrust distrust_cmp exact-records k.records state.records valid.distrusts own.records x has)

-- ---- what is asked about

-- A marked bucket is among those that are.
marked-has : (marks : List Bool) (first place : ℕ) → place < length marks → get_or marks place true ≡ true → Has (marked_from first marks) (first + place)
marked-has [] first place within set = absurd (omega (arith, within))
marked-has (true ∷ marks) first zero within set = inl (omega arith)
marked-has (false ∷ marks) first zero within set = absurd (let no : false ≡ true = set in cc)
marked-has (true ∷ marks) first (suc place) within set =
    let e : (first + 1) + place ≡ first + suc place = omega arith in
    inr (subst (Has (marked_from (first + 1) marks)) e (marked-has marks (first + 1) place (omega (arith, within)) set))
marked-has (false ∷ marks) first (suc place) within set =
    let e : (first + 1) + place ≡ first + suc place = omega arith in
    subst (Has (marked_from (first + 1) marks)) e (marked-has marks (first + 1) place (omega (arith, within)) set)

-- It is asked about.
among-asked : (records : Bool) (buckets : List ℕ) (b : ℕ) → Has buckets b → Has (at_least_one records buckets) b
among-asked false buckets b h = h
among-asked true [] b h = absurd h
among-asked true (c ∷ buckets) b h = h

pub asked-has : (marks : List Bool) (bucket : ℕ) → suc bucket < length marks → get_or marks (suc bucket) true ≡ true → Has (buckets_asked marks) bucket
asked-has [] bucket within set = absurd (omega (arith, within))
asked-has (records ∷ marks) bucket within set =
    let e : 0 + bucket ≡ bucket = omega arith in
    among-asked records (marked_from 0 marks) bucket
    (subst (Has (marked_from 0 marks)) e (marked-has marks 0 bucket (omega (arith, within)) set))

-- There is one at least.
one_at_least : (buckets : List ℕ) → 0 < length (at_least_one true buckets)
one_at_least [] = omega arith
one_at_least (b ∷ buckets) = omega arith

-- If the records are marked, something is asked about.
pub some-asked : (marks : List Bool) → 0 < length marks → get_or marks 0 true ≡ true → 0 < length (buckets_asked marks)
some-asked [] within set = absurd (omega (arith, within))
some-asked (false ∷ marks) within set = absurd (let no : false ≡ true = set in cc)
some-asked (true ∷ marks) within set = one_at_least (marked_from 0 marks)

-- ---- the session

-- no two receipts of both have one id
abbrev pub AreApart : State → Type 0
AreApart state = (r s : Receipt) → Contains state.held r → Contains state.held s → receipt_id_of r ≡ receipt_id_of s → r ≡ s

module _ (m k : Meaning) (valid : IsMeaning m) (other : IsMeaning k) (sums : HasDistinctSums (state_of m) (state_of k))
    (ids : AreApart (joined (state_of m) (state_of k))) where
  abbrev marks : List Bool
  marks = marks_between (state_of m) (state_of k)

  abbrev final : State
  final = after_answers k (state_of m) (buckets_asked marks)

  in-both : (r : Receipt) → Has m.held r ⊎ Has k.held r → Has (joined (state_of m) (state_of k)).held r
  in-both r (inl own) = with_items-keeps receipt_cmp k.held m.held r own
  in-both r (inr theirs) = with_items-new IsReceipt receipt_cmp exact-receipts k.held m.held other.receipts valid.receipts r theirs

  record-in-both : (x : Distrust) → Has m.records x ⊎ Has k.records x → Has (joined (state_of m) (state_of k)).records x
  record-in-both x (inl own) = with_items-keeps distrust_cmp k.records m.records x own
  record-in-both x (inr theirs) = with_items-new IsDistrust distrust_cmp exact-records k.records m.records other.distrusts valid.distrusts x theirs

  -- Each receipt of the other is held then, or one with its id.
  brought : (r : Receipt) → Has k.held r → HasId final r
  brought r has =
      let b = bucket_of_id r in
      let small = bucket-small r in
      let many = length-marks (state_of m) (state_of k) in
      elim (cases_Bool (get_or marks (suc b) true)) [
        | inl set ↦ brings k other (state_of m) (buckets_asked marks) r (formed m valid) has (asked-has marks b (omega (arith, small, many)) set)
        | inr unset ↦
            let at : b + 1 ≡ suc b = omega arith in
            let same = same_ids (state_of m) (state_of k) b (omega (arith, small)) sums (ap (λ p. get_or marks p true) at ∙ unset) in
            let own = held-of-id (state_of m) b r (subst (λ l. Has l (receipt_id_of r)) (sym same) (id-of-held (state_of k) b r has refl)) in
            record { it = own.it; held = keeps k other (state_of m) (buckets_asked marks) own.it own.held; id = own.id }
      ]

  -- It is that receipt.
  itself : (r : Receipt) → Has k.held r → Has final.held r
  itself r has =
      let one = brought r has in
      let both = joined (state_of m) (state_of k) in
      let equal : one.it ≡ r =
      ids one.it r (Contains-from_has both.held one.it (in-both one.it (of-either k other (state_of m) (buckets_asked marks) one.it one.held)))
      (Contains-from_has both.held r (in-both r (inr has))) one.id in
      subst (Has final.held) equal one.held

  -- Each record of the other is held then.
  record-brought : (x : Distrust) → Has k.records x → Has final.records x
  record-brought x has =
      let many = length-marks (state_of m) (state_of k) in
      elim (cases_Bool (get_or marks 0 true)) [
        | inl set ↦ brings-records k other (state_of m) (buckets_asked marks) x (formed m valid) (some-asked marks (omega (arith, many)) set) has
        | inr unset ↦
            keeps-records k other (state_of m) (buckets_asked marks) x
            (subst (λ xs. Has xs x) (sym (same_records (state_of m) (state_of k) sums unset)) has)
      ]

  -- What is held is what both held together, and nothing else.
  pub both-held : final ≡ joined (state_of m) (state_of k)
  both-held =
      let both = joined (state_of m) (state_of k) in
      let asked = buckets_asked marks in
      let here = formed-answers k other (state_of m) asked (formed m valid) in
      let receipts : final.held ≡ both.held =
      same_members receipt_cmp receipt_total final.held both.held here.rising (with_items-rising receipt_cmp receipt_total k.held m.held valid.rising)
      (λ r h. in-both r (of-either k other (state_of m) asked r h))
      (λ r h. elim (with_items-has receipt_cmp k.held m.held r h) [ inl theirs ↦ itself r theirs | inr own ↦ keeps k other (state_of m) asked r own ]) in
      let records : final.records ≡ both.records =
      same_members distrust_cmp distrust_total final.records both.records here.records_rising
      (with_items-rising distrust_cmp distrust_total k.records m.records valid.records_rising)
      (λ x h. record-in-both x (record-of-either k other (state_of m) asked x h))
      (λ x h. elim (with_items-has distrust_cmp k.records m.records x h) [
        | inl theirs ↦ record-brought x theirs
        | inr own ↦ keeps-records k other (state_of m) asked x own
      ]) in
      λ i. record { held = receipts i; records = records i }
