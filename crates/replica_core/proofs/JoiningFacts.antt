-- What is welcome is taken.
use Rattle.std.proofs.Common.{◌≡◌, inl, inr, ℕ, zero, suc, ◌+◌, ◌<◌, ◌≤◌, List, [], ◌∷◌, length, get_or, take, drop, refl, sym, ap, ◌∙◌, subst, arith}
use Rattle.std.specs.Prelude.{Contains, Result, Ok, Err, ◌-◌}
use Rattle.std.specs.List.Sorted.{IsStrictlySortedBy}
use Rattle.fed_config.specs.Configuration.{Configuration}
use Rattle.receipt_core.specs.declared.distrust.Distrust.{Distrust}
use Rattle.receipt_core.specs.Receipt.{Receipt, IsReceipt, receipt_cmp, distrust_cmp, offers_of, pair_of}
use Rattle.receipt_core.specs.Rising.{with_item, with_items}
use Rattle.receipt_core.specs.Sets.{AreSets, Always}
use Rattle.receipt_core.specs.Acceptance.{Meaning, IsMeaning}
use Rattle.closure_core.specs.Changes.{HeldAndRoom as ClosureState, Takes, TakesDistrust, TakesOk, Distrusts}
use Rattle.closure_core.specs.Changes.{HasMergedInRoom}
use Rattle.closure_core.specs.Refusals.{offers_count, Room, IsRoomier, RefusesDistrust, RefusesReceipt}
use Rattle.closure_core.specs.declared.error.TakeError.{TakeError}
use Rattle.closure_core.specs.declared.error.TakeError.TheVariants.{UnknownDomain, WrongEndpoint, BelowFloor, Full, NoMemory as NoTakeMemory}
use Rattle.closure_core.specs.declared.error.TakeError.TheVariants.{ConfigDiffers as OtherConfig}
use Rattle.closure_core.specs.declared.outcome.Refused.{Refused}
use Rattle.closure_core.specs.declared.outcome.Taken.{Taken}
use Rattle.closure_core.specs.declared.outcome.Taken.TheVariants.{New as TakenNew, Already as TakenAlready}
use Rattle.closure_core.specs.declared.outcome.Distrusted.{Distrusted}
use Rattle.closure_core.specs.declared.outcome.Distrusted.TheVariants.{New as DistrustedNew, Already as DistrustedAlready}
use Rattle.replica_core.specs.Absorbing.{with_entry, AreWelcome, IsWelcome, of_receipts, of_records, room_for}
use Rattle.replica_core.specs.Inside.RecordsToo.{HasRecordsToo, only_records}
use Rattle.replica_core.specs.declared.entry.Entry.TheVariants.{Record, Receipt as AReceipt}
use Rattle.replica_core.proofs.ContainsFacts.{contains-none}
use Rattle.replica_core.proofs.UnwelcomeFacts.{take-next, with_items-push}
use Rattle.replica_core.proofs.PlaceFacts.{always, with_items-grows}
use Rattle.replica_core.proofs.RoomFacts.{offers-new, offers-grow}

-- What is left from a place on is the item there and what is left after it.
drop-suc : {X : Type 0} (xs : List X) (i : ℕ) (x : X) → i < length xs → get_or xs i x ≡ x → drop i xs ≡ x ∷ drop (suc i) xs
drop-suc [] i x l e = absurd (omega (arith, l))
drop-suc (y ∷ ys) zero x l e = ap (λ z. z ∷ ys) e
drop-suc (y ∷ ys) (suc i) x l e = drop-suc ys i x (omega (arith, l)) e

-- What is left from a place on is the item there and what is left from the next place on.
drop-next : {X : Type 0} (xs : List X) (i : ℕ) (x : X) → i < length xs → get_or xs i x ≡ x → drop i xs ≡ x ∷ drop (i + 1) xs
drop-next xs i x l e = let one : suc i ≡ i + 1 = omega arith in drop-suc xs i x l e ∙ ap (λ n. x ∷ drop n xs) one

-- A list of length 0 is empty.
pub none-left : {X : Type 0} (xs : List X) → length xs ≡ 0 → xs ≡ []
none-left [] e = refl
none-left (x ∷ xs) e = absurd (omega (arith, e))

-- ---- one record

-- After a record was distrusted, or was held, it is held.
distrusts-held : (now new : Meaning) (x : Distrust) (done : Distrusted) → AreSets Always distrust_cmp → IsMeaning now
    → Distrusts now x new done → new ≡ with_entry (Record x) now
distrusts-held now new x (DistrustedNew lost) sets is h = h.meaning
distrusts-held now new x DistrustedAlready sets is h =
    h.meaning ∙ (λ i. record now { records = sym (sets.present x now.records is.records_rising h.held) i })

-- A welcome record is not refused.
distrusts-refused : (now : Meaning) (x : Distrust) (why : TakeError) → IsWelcome now (Record x) → RefusesDistrust now x why → ⊥
distrusts-refused now x UnknownDomain welcome h = welcome UnknownDomain (λ e. absurd (cc)) h
distrusts-refused now x WrongEndpoint welcome h = h
distrusts-refused now x BelowFloor welcome h = h
distrusts-refused now x Full welcome h = welcome Full (λ e. absurd (cc)) h
distrusts-refused now x NoTakeMemory welcome h = h
distrusts-refused now x OtherConfig welcome h = h

-- A welcome record is held after the call.
distrusted : (now new : Meaning) (x : Distrust) (result : Result Distrusted TakeError) → AreSets Always distrust_cmp
    → IsMeaning now → IsWelcome now (Record x) → TakesDistrust now x new result
    → new ≡ with_entry (Record x) now
distrusted now new x (Ok done) sets is welcome h = distrusts-held now new x done sets is h
distrusted now new x (Err why) sets is welcome h = absurd (distrusts-refused now x why welcome h.cause)

-- ---- records in turn

-- Those so far are held, and the others are welcome.
pub record IsDistrusting (start now : ClosureState) (all : List Distrust) (i : ℕ) : Type 0 where
  pub meaning : now.meaning ≡ record start.meaning { records = with_items distrust_cmp (take i all) start.meaning.records }
  pub room : now.room ≡ start.room
  pub welcome : AreWelcome now.meaning (of_records (drop i all))

-- The step of the loop over records.
pub IsDistrusting-next : (start now new : ClosureState) (all : List Distrust) (i : ℕ) (x : Distrust)
    (result : Result Distrusted TakeError) → AreSets Always distrust_cmp → IsMeaning now.meaning
    → IsDistrusting start now all i → i < length all → get_or all i x ≡ x → new.room ≡ now.room
    → TakesDistrust now.meaning x new.meaning result → IsDistrusting start new all (i + 1)
IsDistrusting-next start now new all i x result sets is so l e room h =
    let welcome : AreWelcome now.meaning (of_records (x ∷ drop (i + 1) all)) =
    subst (λ (xs : List Distrust). AreWelcome now.meaning (of_records xs)) (drop-next all i x l e) so.welcome in
    let held : new.meaning ≡ with_entry (Record x) now.meaning = distrusted now.meaning new.meaning x result sets is welcome.0 h in
    record {
      meaning = held ∙ ap (with_entry (Record x)) so.meaning
          ∙ (λ j. record start.meaning {
            records =
                sym (ap (λ (xs : List Distrust). with_items distrust_cmp xs start.meaning.records) (take-next all i x l e)
                ∙ with_items-push distrust_cmp (take i all) start.meaning.records x) j;
          });
      room = room ∙ so.room;
      welcome = subst (λ (m : Meaning). AreWelcome m (of_records (drop (i + 1) all))) (sym held) welcome.1;
    }

-- ---- records in a closure of their own

-- Those so far are held there, and nothing else is.
abbrev pub IsCollected : Configuration → Meaning → List Distrust → ℕ → Type 0
IsCollected c now all i = now ≡ only_records c (take i all)

-- A set with the items of a set of these items is the set with the items.
twice : (xs set : List Distrust) → AreSets Always distrust_cmp → IsStrictlySortedBy distrust_cmp set
    → with_items distrust_cmp (with_items distrust_cmp xs []) set ≡ with_items distrust_cmp xs set
twice xs set sets rises =
    let own : List Distrust = with_items distrust_cmp xs [] in
    sets.equal (with_items distrust_cmp own set) (with_items distrust_cmp xs set)
    (sets.all_rise own set rises) (sets.all_rise xs set rises)
    (λ a. (
      λ h. elim ((sets.all_members own set a (always own) (always set)).0 h) [
        | inl mine ↦ elim ((sets.all_members xs [] a (always xs) tt).0 mine) [
          | inl has ↦ (sets.all_members xs set a (always xs) (always set)).1 (inl has)
          | inr none ↦ absurd (contains-none a none)
        ]
        | inr old ↦ (sets.all_members xs set a (always xs) (always set)).1 (inr old)
      ],
      λ h. elim ((sets.all_members xs set a (always xs) (always set)).0 h) [
        | inl has ↦ (sets.all_members own set a (always own) (always set)).1
            (inl ((sets.all_members xs [] a (always xs) tt).1 (inl has)))
        | inr old ↦ (sets.all_members own set a (always own) (always set)).1 (inr old)
      ],
    ))

-- A merge with such a closure also holds its records.
pub merged-records : (old new : ClosureState) (other : Meaning) (records : List Distrust) (n : ℕ) → AreSets Always distrust_cmp
    → IsMeaning old.meaning → other ≡ only_records old.meaning.config records → HasMergedInRoom old other new n
    → HasRecordsToo old records new
merged-records old new other records n sets is only h =
    let both : HasMergedInRoom old (only_records old.meaning.config records) new n =
    subst (λ (m : Meaning). HasMergedInRoom old m new n) only h in
    let count : length old.meaning.held ≡ length old.meaning.held + n = both.merged.count in
    let receipts = both.receipts in
    let offers = both.offers in
    record {
      meaning = both.merged.meaning ∙ (λ j. record old.meaning {
        records = twice records old.meaning.records sets is.records_rising j;
      });
      room = record { receipts = omega (arith, receipts, count); offers = omega (arith, offers) };
    }

-- Room that has grown since is enough for what there was room for before.
pub still-roomy : (wanted old new : Room) → IsRoomier wanted old → IsRoomier old new → IsRoomier wanted new
still-roomy wanted old new before grown =
    let b = before.receipts in
    let g = grown.receipts in
    let c = before.offers in
    let h = grown.offers in
    record { receipts = omega (arith, b, g); offers = omega (arith, c, h) }

-- ---- one receipt

-- A welcome receipt that is held or has room is not refused.
takes-refused : (now : ClosureState) (r : Receipt) (why : TakeError) → IsWelcome now.meaning (AReceipt r)
    → ((Contains now.meaning.held r → ⊥) → (0 < now.room.receipts) × (length (offers_of (pair_of r)) ≤ now.room.offers))
    → RefusesReceipt now.meaning now.room r why → ⊥
takes-refused now r UnknownDomain welcome ample h = welcome UnknownDomain (λ e. absurd (cc)) h
takes-refused now r WrongEndpoint welcome ample h = welcome WrongEndpoint (λ e. absurd (cc)) h
takes-refused now r BelowFloor welcome ample h = welcome BelowFloor (λ e. absurd (cc)) h
takes-refused now r Full welcome ample h = welcome Full (λ e. absurd (cc)) h
takes-refused now r NoTakeMemory welcome ample h = let has = ample h.unheld in h.beyond has.0 has.1
takes-refused now r OtherConfig welcome ample h = h

-- ---- receipts in turn

-- With the others all will be held, and these are welcome and have room.
pub record IsJoining (start now : ClosureState) (all rest : List Receipt) : Type 0 where
  pub meaning : record now.meaning { held = with_items receipt_cmp rest now.meaning.held }
      ≡ record start.meaning { held = with_items receipt_cmp all start.meaning.held }
  pub welcome : AreWelcome now.meaning (of_receipts rest)
  pub room : IsRoomier (room_for now.meaning rest) now.room

-- Before the first receipt all are left: the loop's beginning.
pub IsJoining-start : (start : ClosureState) (all : List Receipt) → AreWelcome start.meaning (of_receipts all)
    → IsRoomier (room_for start.meaning all) start.room → IsJoining start start all all
IsJoining-start start all welcome room = record { meaning = refl; welcome = welcome; room = room }

-- After a receipt was taken it is held, and the later ones have room.
joined-taken : (start now new : ClosureState) (all later : List Receipt) (r : Receipt) (taken : Taken)
    → AreSets IsReceipt receipt_cmp → IsMeaning now.meaning → IsReceipt r → IsJoining start now all (r ∷ later)
    → TakesOk now r new taken → IsJoining start new all later
joined-taken start now new all later r (TakenNew count) sets is form so h =
    let receipts = so.room.receipts in
    let offers = so.room.offers in
    let less = h.receipts in
    let fewer = h.offers in
    let held : new.meaning.held ≡ with_item receipt_cmp r now.meaning.held = ap (λ (m : Meaning). m.held) h.meaning in
    let longer = sets.longer r now.meaning.held form is.receipts h.unheld in
    let more = offers-new sets r now.meaning.held form is.receipts h.unheld in
    record {
      meaning = ap (λ (m : Meaning). record m { held = with_items receipt_cmp later m.held }) h.meaning ∙ so.meaning;
      welcome = subst (λ (m : Meaning). AreWelcome m (of_receipts later)) (sym h.meaning) so.welcome.1;
      room = subst (λ (m : Meaning). IsRoomier (room_for m later) new.room) (sym h.meaning)
          record { receipts = omega (arith, receipts, less, longer); offers = omega (arith, offers, fewer, more) };
    }
joined-taken start now new all later r TakenAlready sets is form so h =
    let same : with_item receipt_cmp r now.meaning.held ≡ now.meaning.held = sets.present r now.meaning.held is.rising h.held in
    subst (λ (s : ClosureState). IsJoining start s all later) (sym h.same)
    record {
      meaning = (λ i. record now.meaning { held = with_items receipt_cmp later (sym same i) }) ∙ so.meaning;
      welcome = subst (λ (set : List Receipt). AreWelcome (record now.meaning { held = set }) (of_receipts later)) same so.welcome.1;
      room = subst (λ (set : List Receipt). IsRoomier (record {
        receipts = length (with_items receipt_cmp later set) - length now.meaning.held;
        offers = offers_count (with_items receipt_cmp later set) - offers_count now.meaning.held;
      }) now.room) same so.room;
    }

-- When the first of those left is held, the later ones are left.
joined-first : (start now new : ClosureState) (all later : List Receipt) (r : Receipt) (result : Result Taken Refused)
    → AreSets IsReceipt receipt_cmp → IsMeaning now.meaning → IsReceipt r → IsJoining start now all (r ∷ later)
    → Takes now r new result → IsJoining start new all later
joined-first start now new all later r (Ok done) sets is form so h = joined-taken start now new all later r done sets is form so h
joined-first start now new all later r (Err refused) sets is form so h =
    absurd (takes-refused now r refused.why so.welcome.0 (λ unheld.
    let receipts = so.room.receipts in
    let offers = so.room.offers in
    let longer = sets.longer r now.meaning.held form is.receipts unheld in
    let more = offers-new sets r now.meaning.held form is.receipts unheld in
    let grown = with_items-grows receipt_cmp later (with_item receipt_cmp r now.meaning.held) in
    let wider = offers-grow later (with_item receipt_cmp r now.meaning.held) in
    (omega (arith, receipts, longer, grown), omega (arith, offers, more, wider))) h.cause)

-- The step of the loop over receipts.
pub IsJoining-next : (start now new : ClosureState) (all rest later : List Receipt) (r : Receipt)
    (result : Result Taken Refused) → AreSets IsReceipt receipt_cmp → IsMeaning now.meaning → IsReceipt r
    → IsJoining start now all rest
    → rest ≡ r ∷ later → Takes now r new result → IsJoining start new all later
IsJoining-next start now new all rest later r result sets is form so e h =
    joined-first start now new all later r result sets is form (subst (IsJoining start now all) e so) h

-- If none is left, all are held.
pub IsJoining-end : (start now : ClosureState) (all rest : List Receipt) → IsJoining start now all rest → rest ≡ []
    → now.meaning ≡ record start.meaning { held = with_items receipt_cmp all start.meaning.held }
IsJoining-end start now all rest so e =
    sym (ap (λ (xs : List Receipt). record now.meaning { held = with_items receipt_cmp xs now.meaning.held }) e) ∙ so.meaning
