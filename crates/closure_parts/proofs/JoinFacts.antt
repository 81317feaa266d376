-- All that another closure holds is taken in
use Rattle.std.proofs.Common.{◌≡◌, ℕ, ◌+◌, ◌<◌, ◌≤◌, ◌⊎◌, inl, inr, Bool, true, false, List, [], ◌∷◌, length, Less, Equal, Greater}
use Rattle.std.proofs.Common.{ltb, refl, sym, ap, ◌∙◌, subst, arith}
use Rattle.std.specs.declared.cmp.Ordering.{Ordering}
use Rattle.std.specs.List.{Contains}
use Rattle.std.specs.Prelude.{Result, Ok, Err, IsOk, OnOk, MatchBool}
use Rattle.std.proofs.lemmas.Bool.{ltb-true, ltb-false}
use Rattle.std.specs.Result.{is_err}
use Rattle.std.specs.Prelude.{sum_by}
use Rattle.std.proofs.lemmas.List.Sums.{sum_by-cons}
use Rattle.fed_config.specs.Configuration.{Configuration, IsConfiguration}
use Rattle.receipt_core.specs.declared.distrust.Distrust.{Distrust}
use Rattle.receipt_core.specs.Order.{receipt_total}
use Rattle.receipt_core.specs.Receipt.{Receipt, receipt_cmp, distrust_cmp, pair_of, offers_of}
use Rattle.receipt_core.specs.Rising.{placed, with_item, with_items}
use Rattle.receipt_core.specs.Acceptance.{IsFitting, Meaning, IsMeaning}
use Rattle.receipt_core.specs.Limits.{receipt_limit}
use Rattle.closure_core.specs.Changes.{HeldAndRoom, Takes, HasMerged, HasMergedInRoom, TakesOk}
use Rattle.closure_parts.specs.Held.{AddsRecord, AddsOrRefuses}
use Rattle.closure_parts.specs.declared.records.Insertion.{Insertion}
use Rattle.closure_parts.specs.declared.records.Insertion.TheVariants.{Added, There, Full as NoPlace}
use Rattle.closure_core.specs.Refusals.{offers_count, Room, IsRoomier, RefusesReceipt, RefusesDistrust, RefusesMerge, WantsCopies}
use Rattle.closure_core.specs.Refusals.{all_records, all_receipts}
use Rattle.closure_parts.specs.Merge.{IsMergePlan, AreKnown, FitWithinRoom, HasSpentOn, AreOld, HasNewRecord}
use Rattle.closure_parts.proofs.HeldChangeFacts.{all-old}
use Rattle.closure_parts.specs.declared.copies.MergePlan.{MergePlan}
use Rattle.closure_core.specs.declared.error.TakeError.{TakeError}
use Rattle.closure_core.specs.declared.error.TakeError.TheVariants.{UnknownDomain, WrongEndpoint, BelowFloor, Full, NoMemory, ConfigDiffers}
use Rattle.closure_core.specs.declared.outcome.Refused.{Refused}
use Rattle.closure_core.specs.declared.outcome.Taken.{Taken}
use Rattle.closure_core.specs.declared.outcome.Taken.TheVariants.{New as TakenNew, Already as TakenAlready}
use Rattle.closure_core.proofs.ContainsFacts.{contains_first, contains_later}
use Rattle.closure_core.proofs.FitFacts.{fits_known, fits_right, fits_above}
use Rattle.closure_core.proofs.RisingFacts.{with_item_longer}
use Rattle.closure_core.proofs.UnionFacts.{receipt_sets, record_sets, always}

-- A list of length 0 is empty.
pub none_left : {X : Type 0} (xs : List X) → length xs ≡ 0 → xs ≡ []
none_left [] e = refl
none_left (x ∷ xs) e = absurd (omega arith)

-- ---- sets grow

-- One step of `with_item_grows`, for each way the item compares with the first.
placed_grows : {X : Type 0} (o : Ordering) (x h : X) (t longer : List X) → length t ≤ length longer → length t + 1 ≤ length (placed o x h t longer)
placed_grows Less x h t longer rest = omega arith
placed_grows Equal x h t longer rest = omega arith
placed_grows Greater x h t longer rest = omega arith

-- Adding an item makes no set smaller.
with_item_grows : {X : Type 0} (cmp : X → X → Ordering) (x : X) (xs : List X) → length xs ≤ length (with_item cmp x xs)
with_item_grows cmp x [] = omega arith
with_item_grows cmp x (h ∷ t) = let rest = placed_grows (cmp x h) x h t (with_item cmp x t) (with_item_grows cmp x t) in omega arith

-- Adding many items makes no set smaller.
with_items_grows : {X : Type 0} (cmp : X → X → Ordering) (items xs : List X) → length xs ≤ length (with_items cmp items xs)
with_items_grows cmp [] xs = omega arith
with_items_grows cmp (i ∷ items) xs = let first = with_item_grows cmp i xs in let rest = with_items_grows cmp items (with_item cmp i xs) in omega arith

-- ---- receipts in turn

-- With those that are left the receipts will be those of all, and these are welcome. So far no more
-- room has gone than that of all but those that are left.
pub record IsJoining (start now : HeldAndRoom) (all rest : List Receipt) : Type 0 where
  pub config : now.meaning.config ≡ start.meaning.config
  pub records : now.meaning.records ≡ start.meaning.records
  pub held : with_items receipt_cmp rest now.meaning.held ≡ with_items receipt_cmp all start.meaning.held
  pub welcome : FitWithinRoom now rest
  pub receipts : start.room.receipts + length rest ≤ now.room.receipts + length all
  pub offers : start.room.offers + offers_count rest ≤ now.room.offers + offers_count all

-- Before the first receipt all are left: the loop's beginning.
pub IsJoining-start : (start : HeldAndRoom) (all : List Receipt) → FitWithinRoom start all → IsJoining start start all all
IsJoining-start start all welcome = record {
  config = refl;
  records = refl;
  held = refl;
  welcome = welcome;
  receipts = omega arith;
  offers = omega arith;
}

-- The offers of a list are those of its first receipt and of the later ones.
offers_first : (r : Receipt) (later : List Receipt) → offers_count (r ∷ later) ≡ length (offers_of (pair_of r)) + offers_count later
offers_first r later = sum_by-cons (λ s. length (offers_of (pair_of s))) r later

-- A receipt that was taken, or was held, leaves the later ones to be joined.
took : (start now new : HeldAndRoom) (all later : List Receipt) (r : Receipt) → IsMeaning now.meaning
    → IsJoining start now all (r ∷ later) → (taken : Taken) → TakesOk now r new taken → IsJoining start new all later
took start now new all later r is joining (TakenNew accepted) h =
    let few = joining.welcome.few in
    let receipts = joining.welcome.room.receipts in
    let offers = joining.welcome.room.offers in
    let spent = joining.receipts in
    let spent_offers = joining.offers in
    let left = h.receipts in
    let left_offers = h.offers in
    let size : length new.meaning.held ≤ length now.meaning.held + 1 =
    omega (arith, ap (λ (m : Meaning). length m.held) h.meaning, with_item_longer receipt_total r now.meaning.held)
    in
    record {
      config = ap (λ (m : Meaning). m.config) h.meaning ∙ joining.config;
      records = ap (λ (m : Meaning). m.records) h.meaning ∙ joining.records;
      held = ap (λ (m : Meaning). with_items receipt_cmp later m.held) h.meaning ∙ joining.held;
      welcome = record {
        fitting = λ s has. subst (λ (c : Configuration). IsFitting c s) (sym (ap (λ (m : Meaning). m.config) h.meaning))
            (joining.welcome.fitting s (contains_later r later s has));
        few = omega (arith, ap (λ (m : Meaning). receipt_limit m.config) h.meaning);
        room = record { receipts = omega arith; offers = omega (arith, offers_first r later) };
      };
      receipts = omega (arith, spent);
      offers = omega (arith, spent_offers, offers_first r later);
    }
took start now new all later r is joining TakenAlready h =
    let few = joining.welcome.few in
    let receipts = joining.welcome.room.receipts in
    let offers = joining.welcome.room.offers in
    let spent = joining.receipts in
    let spent_offers = joining.offers in
    let stays : IsJoining start now all later = record {
      config = joining.config;
      records = joining.records;
      held = ap (with_items receipt_cmp later) (sym (receipt_sets.present r now.meaning.held is.rising h.held)) ∙ joining.held;
      welcome = record {
        fitting = λ s has. joining.welcome.fitting s (contains_later r later s has);
        few = omega arith;
        room = record { receipts = omega arith; offers = omega (arith, offers_first r later) };
      };
      receipts = omega (arith, spent);
      offers = omega (arith, spent_offers, offers_first r later);
    } in
    subst (λ (s : HeldAndRoom). IsJoining start s all later) (sym h.same) stays

-- No receipt that is left is refused, since it fits and there is room.
never : (start now : HeldAndRoom) (all later : List Receipt) (r : Receipt) → IsConfiguration now.meaning.config
    → IsJoining start now all (r ∷ later) → (why : TakeError) → RefusesReceipt now.meaning now.room r why → ⊥
never start now all later r is joining UnknownDomain h = fits_known now.meaning.config r (joining.welcome.fitting r (contains_first r later)) h
never start now all later r is joining WrongEndpoint h = fits_right now.meaning.config r is (joining.welcome.fitting r (contains_first r later)) h
never start now all later r is joining BelowFloor h = fits_above now.meaning.config r (joining.welcome.fitting r (contains_first r later)) h
never start now all later r is joining Full h =
    let few = joining.welcome.few in
    let full = h.full in
    absurd (omega arith)
never start now all later r is joining NoMemory h =
    let receipts = joining.welcome.room.receipts in
    let offers = joining.welcome.room.offers in
    h.beyond (omega arith) (omega (arith, offers_first r later))
never start now all later r is joining ConfigDiffers h = h

-- Whatever the call returned, the later ones are left to be joined.
takes_next : (start now new : HeldAndRoom) (all later : List Receipt) (r : Receipt) → IsMeaning now.meaning
    → IsConfiguration now.meaning.config → IsJoining start now all (r ∷ later) → (result : Result Taken Refused)
    → Takes now r new result → IsJoining start new all later
takes_next start now new all later r is form joining (Ok taken) h = took start now new all later r is joining taken h
takes_next start now new all later r is form joining (Err refused) h = absurd (never start now all later r form joining refused.why h.cause)

-- The step of the loop over receipts.
pub IsJoining-next : (start now new : HeldAndRoom) (m : Meaning) (all rest later : List Receipt) (r : Receipt)
    (result : Result Taken Refused) → m ≡ now.meaning → IsMeaning m → IsConfiguration m.config
    → IsJoining start now all rest → rest ≡ r ∷ later → Takes now r new result → IsJoining start new all later
IsJoining-next start now new m all rest later r result same is form joining e h =
    takes_next start now new all later r (subst IsMeaning same is)
    (subst (λ (k : Meaning). IsConfiguration k.config) same form) (subst (IsJoining start now all) e joining) result
    h

-- If none is left, all are held.
pub IsJoining-end : (start now : HeldAndRoom) (all rest : List Receipt) → IsJoining start now all rest → rest ≡ []
    → now.meaning ≡ record start.meaning { held = with_items receipt_cmp all start.meaning.held }
IsJoining-end start now all rest joining e =
    let held : now.meaning.held ≡ with_items receipt_cmp all start.meaning.held =
    sym (ap (λ xs. with_items receipt_cmp xs now.meaning.held) e) ∙ joining.held in
    let config = joining.config in
    let records = joining.records in
    λ i. record { config = config i; held = held i; records = records i }

-- after all of them, no more room has gone than theirs
pub IsJoining-spent : (start now : HeldAndRoom) (all rest : List Receipt) → IsJoining start now all rest → rest ≡ []
    → HasSpentOn start.room all now.room
IsJoining-spent start now all rest joining e =
    let receipts = joining.receipts in
    let offers = joining.offers in
    record { receipts = omega arith; offers = omega arith }

-- ---- records in turn

-- With those that are left the records will be those of all, and these are known.
pub record IsDistrusting (start now : Meaning) (all rest : List Distrust) : Type 0 where
  pub config : now.config ≡ start.config
  pub held : now.held ≡ start.held
  pub records : with_items distrust_cmp rest now.records ≡ with_items distrust_cmp all start.records
  pub known : AreKnown now rest
  pub within : (x : Distrust) → Contains rest x → Contains all x

-- Before the first record all are left: the loop's beginning.
pub IsDistrusting-start : (start : Meaning) (all : List Distrust) → AreKnown start all
    → IsDistrusting start start all all
IsDistrusting-start start all known = record
    { config = refl; held = refl; records = refl; known = known; within = λ x has. has }

-- A record that was added, or was held, leaves the later ones to be added.
distrusted : (start now new : Meaning) (all later : List Distrust) (x : Distrust) → IsMeaning now
    → IsDistrusting start now all (x ∷ later) → (done : Insertion) → AddsRecord now x new done
    → IsDistrusting start new all later
distrusted start now new all later x is joining Added h = record {
  config = ap (λ (m : Meaning). m.config) h.meaning ∙ joining.config;
  held = ap (λ (m : Meaning). m.held) h.meaning ∙ joining.held;
  records = ap (λ (m : Meaning). with_items distrust_cmp later m.records) h.meaning ∙ joining.records;
  known = subst (λ (m : Meaning). AreKnown m later) (sym h.meaning)
      (record { domains = λ y has. joining.known.domains y (contains_later x later y has); few = joining.known.few });
  within = λ y has. joining.within y (contains_later x later y has);
}
distrusted start now new all later x is joining There h =
    let same : with_item distrust_cmp x now.records ≡ now.records = record_sets.present x
    now.records is.records_rising h.0 in
    let few = joining.known.few in
    let size = ap (λ xs. length (with_items distrust_cmp later xs)) same in
    record {
      config = ap (λ (m : Meaning). m.config) h.1 ∙ joining.config;
      held = ap (λ (m : Meaning). m.held) h.1 ∙ joining.held;
      records = ap (λ (m : Meaning). with_items distrust_cmp later m.records) h.1
          ∙ ap (with_items distrust_cmp later) (sym same) ∙ joining.records;
      known = subst (λ (m : Meaning). AreKnown m later) (sym h.1)
          (record {
            domains = λ y has. joining.known.domains y (contains_later x later y has);
            few =
                omega arith;
          });
      within = λ y has. joining.within y (contains_later x later y has);
    }
distrusted start now new all later x is joining NoPlace h = absurd h

-- No record that is left is refused, since its domain is known and there is a place.
never_distrusts : (start now : Meaning) (all later : List Distrust) (x : Distrust)
    → IsDistrusting start now all (x ∷ later) → (why : TakeError) → RefusesDistrust now x why → ⊥
never_distrusts start now all later x joining UnknownDomain h = h (joining.known.domains x (contains_first x later))
never_distrusts start now all later x joining WrongEndpoint h = h
never_distrusts start now all later x joining BelowFloor h = h
never_distrusts start now all later x joining Full h =
    let few = joining.known.few in
    let full = h.full in
    let longer = record_sets.longer x now.records tt (always now.records) h.unheld in
    let grows = with_items_grows distrust_cmp later (with_item distrust_cmp x now.records) in
    absurd (omega arith)
never_distrusts start now all later x joining NoMemory h = h
never_distrusts start now all later x joining ConfigDiffers h = h

-- Whatever the call returned, the later ones are left to be added.
distrusts_next : (start now new : Meaning) (all later : List Distrust) (x : Distrust)
    → IsMeaning now → IsDistrusting start now all (x ∷ later) → (result : Result Insertion TakeError)
    → AddsOrRefuses now x new result → IsDistrusting start new all later
distrusts_next start now new all later x is joining (Ok done) h = distrusted start now new all later
    x is joining done h
distrusts_next start now new all later x is joining (Err why) h = absurd
    (never_distrusts start now all later x joining why h.0)

-- The next record is one of all.
pub IsDistrusting-among : (start now : Meaning) (all rest later : List Distrust) (x : Distrust)
    → IsDistrusting start now all rest → rest ≡ x ∷ later → Contains all x
IsDistrusting-among start now all rest later x joining e = joining.within x
    (subst (λ (xs : List Distrust). Contains xs x) (sym e) (contains_first x later))

-- The step of the loop over records.
pub IsDistrusting-next : (start now new : Meaning) (all rest later : List Distrust) (x : Distrust)
    (result : Result Insertion TakeError) → IsMeaning now → IsDistrusting start now all rest
    → rest ≡ x ∷ later → AddsOrRefuses now x new result → IsDistrusting start new all later
IsDistrusting-next start now new all rest later x result is joining e h =
    distrusts_next start now new all later x is (subst (IsDistrusting start now all) e joining)
    result h

-- If none is left, all are held.
pub IsDistrusting-end : (start now : Meaning) (all rest : List Distrust)
    → IsDistrusting start now all rest → rest ≡ []
    → now ≡ record start { records = with_items distrust_cmp all start.records }
IsDistrusting-end start now all rest joining e =
    let records : now.records ≡ with_items distrust_cmp all start.records = sym
    (ap (λ xs. with_items distrust_cmp xs now.records) e) ∙ joining.records in
    let config = joining.config in
    let held = joining.held in
    λ i. record { config = config i; held = held i; records = records i }

-- there are more records and one of all is new, or nothing has changed
abbrev pub HasGrown : Meaning → List Distrust → Meaning → Type 0
HasGrown start all now = (HasNewRecord start all × (length start.records < length now.records)) ⊎ (now ≡ start)

-- More records than now are more than at the start, and if these are the first ones, the added one
-- is new.
grows_to : (start now new : Meaning) (all : List Distrust) (x : Distrust) → Contains all x → (Contains now.records x → ⊥)
    → length now.records < length new.records → HasGrown start all now → HasGrown start all new
grows_to start now new all x among unheld longer (inl more) = inl (more.0, omega (arith, more.1, longer))
grows_to start now new all x among unheld longer (inr same) = inl (
  record { added = x; among = among; unheld = subst (λ (m : Meaning). Contains m.records x → ⊥) same unheld },
  omega (arith, longer, ap (λ (m : Meaning). length m.records) same),
)

-- No change now keeps what was so.
stays_as : (start now new : Meaning) (all : List Distrust) → new ≡ now → HasGrown start all now → HasGrown start all new
stays_as start now new all same grown = subst (HasGrown start all) (sym same) grown

-- Each record makes them more or changes nothing, so a close is needed only if they are more.
pub grown_next : (start now new : Meaning) (all : List Distrust) (x : Distrust) (result : Result Insertion TakeError)
    → Contains all x → AddsOrRefuses now x new result → HasGrown start all now → HasGrown start all new
grown_next start now new all x (Ok Added) among h grown =
    let longer = record_sets.longer x now.records tt (always now.records) h.unheld in
    let size = ap (λ (m : Meaning). length m.records) h.meaning in
    grows_to start now new all x among h.unheld (omega (arith, longer, size)) grown
grown_next start now new all x (Ok There) among h grown = stays_as start now new all h.1 grown
grown_next start now new all x (Ok NoPlace) among h grown = absurd h
grown_next start now new all x (Err why) among h grown = stays_as start now new all h.1 grown

-- If fewer may come than at the start, one of all is new. Otherwise all were held.
pub grown_states : (start now : Meaning) (all : List Distrust) (before after limit : ℕ) → HasGrown start all now
    → now ≡ record start { records = with_items distrust_cmp all start.records } → length start.records + before ≡ limit
    → length now.records + after ≡ limit → MatchBool (ltb after before) (HasNewRecord start all) (AreOld start all)
grown_states start now all before after limit grown held left left_now = by_cases (ltb after before) refl
  where
    by_cases : (more : Bool) → ltb after before ≡ more → MatchBool more (HasNewRecord start all) (AreOld start all)
    by_cases true e = elim grown [
      | inl more ↦ more.0
      | inr same ↦ absurd (omega (arith, ltb-true after before e, left, left_now, ap (λ (m : Meaning). length m.records) same))
    ]
    by_cases false e = elim grown [
      | inl more ↦ absurd (omega (arith, ltb-false after before e, left, left_now, more.1))
      | inr same ↦ all-old start now all held same
    ]

-- ---- all in turn

-- The records of what may be merged are known.
pub share_known : (m now other : Meaning) (share : MergePlan) (records : List Distrust) → IsMergePlan m other share → now ≡ m
    → records ≡ other.records → AreKnown now records
share_known m now other share records is same e =
    subst (λ (k : Meaning). AreKnown k records) (sym same)
    (subst (AreKnown m) (sym e) (record { domains = is.mergeable.of_config.domains; few = is.mergeable.few_records }))

-- The copied receipts are welcome once there is room for them.
pub share_welcome : (m other : Meaning) (roomy now : HeldAndRoom) (share : MergePlan) (records : List Distrust)
    → IsMergePlan m other share → roomy.meaning ≡ m
    → now.meaning ≡ record roomy.meaning { records = with_items distrust_cmp records roomy.meaning.records }
    → now.room ≡ roomy.room
    → IsRoomier (record { receipts = length share.copies.items; offers = share.offers }) roomy.room
    → FitWithinRoom now share.copies.items
share_welcome m other roomy now share records is same e room roomier =
    let config : now.meaning.config ≡ m.config = ap (λ (k : Meaning). k.config) e ∙ ap (λ (k : Meaning). k.config) same in
    let held : now.meaning.held ≡ m.held = ap (λ (k : Meaning). k.held) e ∙ ap (λ (k : Meaning). k.held) same in
    let few = is.mergeable.few in
    let count = is.copies.count in
    let size = ap length held in
    let offers = is.offers in
    let more = roomier.receipts in
    let more_offers = roomier.offers in
    record {
      fitting = λ r has. subst (λ (c : Configuration). IsFitting c r) (sym config) (is.mergeable.of_config.fitting r (is.copies.each r has));
      few = omega (arith, ap receipt_limit config);
      room = subst (λ (k : Room). IsRoomier (record {
        receipts = length share.copies.items;
        offers =
            offers_count share.copies.items;
      }) k) (sym room) (record { receipts = more; offers = omega arith });
    }

-- After the records and the receipts all is held that the merge promises.
pub share_merged : (m other roomy less new : Meaning) (share : MergePlan) (records : List Distrust) (n : ℕ)
    → IsMergePlan m other share → n ≡ length share.copies.items → records ≡ other.records → roomy ≡ m
    → less ≡ record roomy { records = with_items distrust_cmp records roomy.records }
    → new ≡ record less { held = with_items receipt_cmp share.copies.items less.held } → HasMerged m other new n
share_merged m other roomy less new share records n is size own e1 e2 e3 =
    let joined = is.copies.all in
    let count = is.copies.count in
    record {
      of_config = is.mergeable.of_config;
      few = is.mergeable.few;
      few_records = is.mergeable.few_records;
      meaning = e3 ∙ ap (λ (k : Meaning). record k { held = with_items receipt_cmp share.copies.items k.held })
          (e2 ∙ ap (λ xs. record roomy { records = with_items distrust_cmp xs roomy.records }) own
          ∙ ap (λ (k : Meaning). record k { records = with_items distrust_cmp other.records k.records }) e1)
          ∙ (λ i. record { config = m.config; held = joined i; records = all_records m other });
      count = omega arith;
    }

-- ---- what all that are held offer

-- an item that makes a list longer adds its own to the sum, before the head or after it
placed_sum : {X : Type 0} (f : X → ℕ) (o : Ordering) (x h : X) (t longer : List X)
    → length (placed o x h t longer) ≡ length (h ∷ t) + 1
    → (length longer ≡ length t + 1 → sum_by f longer ≡ sum_by f t + f x)
    → sum_by f (placed o x h t longer) ≡ sum_by f (h ∷ t) + f x
placed_sum f Less x h t longer e rest = omega (arith, sum_by-cons f x (h ∷ t))
placed_sum f Equal x h t longer e rest = absurd (omega (arith, e))
placed_sum f Greater x h t longer e rest =
    let more = rest (omega (arith, e)) in
    omega (arith, more, sum_by-cons f h longer, sum_by-cons f h t)

-- if a set is longer with an item, its sum is greater by the item's
with_item_sum : {X : Type 0} (f : X → ℕ) (cmp : X → X → Ordering) (x : X) (xs : List X)
    → length (with_item cmp x xs) ≡ length xs + 1 → sum_by f (with_item cmp x xs) ≡ sum_by f xs + f x
with_item_sum f cmp x [] e = omega (arith, sum_by-cons f x [])
with_item_sum f cmp x (h ∷ t) e = placed_sum f (cmp x h) x h t (with_item cmp x t) e (with_item_sum f cmp x t)

-- with these receipts a set is longer by at most their number
with_items_longest : (items held : List Receipt) → length (with_items receipt_cmp items held) ≤ length held + length items
with_items_longest [] held = omega arith
with_items_longest (r ∷ items) held =
    omega (arith, with_items_longest items (with_item receipt_cmp r held), with_item_longer receipt_total r held)

-- if no receipt of these was held, all together offer what those that were held and these offer
joined_offers : (items held : List Receipt) → length (with_items receipt_cmp items held) ≡ length held + length items
    → offers_count (with_items receipt_cmp items held) ≡ offers_count held + offers_count items
joined_offers [] held e = omega arith
joined_offers (r ∷ items) held e =
    let one : length (with_item receipt_cmp r held) ≡ length held + 1 =
    omega (arith, e, with_items_longest items (with_item receipt_cmp r held), with_item_longer receipt_total r held) in
    omega (
      arith,
      joined_offers items (with_item receipt_cmp r held) (omega (arith, e, one)),
      with_item_sum (λ s. length (offers_of (pair_of s))) receipt_cmp r held one,
      offers_first r items,
    )

-- of the room that there was before, no more has gone than that of the copies
pub share_spent : (old roomy less new : HeldAndRoom) (other : Meaning) (share : MergePlan) (n : ℕ)
    → IsMergePlan old.meaning other share → n ≡ length share.copies.items → HasMerged old.meaning other new.meaning n
    → IsRoomier old.room roomy.room → less.room ≡ roomy.room → HasSpentOn less.room share.copies.items new.room
    → HasMergedInRoom old other new n
share_spent old roomy less new other share n is size merged roomier same spent =
    let receipts : old.room.receipts ≤ less.room.receipts =
    omega (arith, roomier.receipts, ap (λ (k : Room). k.receipts) same) in
    let offers : old.room.offers ≤ less.room.offers =
    omega (arith, roomier.offers, ap (λ (k : Room). k.offers) same) in
    let sum = joined_offers share.copies.items old.meaning.held (ap length is.copies.all ∙ is.copies.count) in
    let all : offers_count (all_receipts old.meaning other) ≡ offers_count old.meaning.held + offers_count share.copies.items =
    sym (ap offers_count is.copies.all) ∙ sum in
    record {
      merged = merged;
      receipts = omega (arith, receipts, spent.receipts, size);
      offers = omega (arith, offers, spent.offers, all);
    }

-- What is an error is not a success.
no_ok : {T E : Type 0} (r : Result T E) → is_err r ≡ true → IsOk r → ⊥
no_ok (Ok v) e ok = absurd (cc)
no_ok (Err v) e ok = absurd (cc)

-- If there was no room for the copies, a receipt had to be copied.
wants : (m other : Meaning) (share : MergePlan) (room : Room) (xs : List Receipt) → xs ≡ share.copies.items
    → IsMergePlan m other share → (IsRoomier (record { receipts = length share.copies.items; offers = share.offers }) room
    → ⊥) → WantsCopies m other
wants m other share room [] e is beyond =
    let offers = is.offers in
    let none = ap length e in
    let none_offers = ap offers_count e in
    absurd (beyond (record { receipts = omega arith; offers = omega arith }))
wants m other share room (r ∷ rest) e is beyond =
    let has : Contains share.copies.items r = subst (λ (xs : List Receipt). Contains xs r) e (contains_first r rest) in
    record {
      of_config = is.mergeable.of_config;
      few = is.mergeable.few;
      few_records = is.mergeable.few_records;
      receipt = r;
      has = is.copies.each r has;
      unheld = is.copies.unheld r has;
    }

-- If memory for the copies was refused, the merge is refused for lack of memory.
pub share_wants : {T E : Type 0} (m other : Meaning) (share : MergePlan) (room : Room) (n : ℕ) (r : Result T E)
    → IsMergePlan m other share → n ≡ length share.copies.items → is_err r ≡ true
    → (IsRoomier (record { receipts = n; offers = share.offers }) room → IsOk r) → WantsCopies m other
share_wants m other share room n r is size err within =
    wants m other share room share.copies.items refl is
    (λ roomier. no_ok r err
    (within (subst (λ k. IsRoomier (record { receipts = k; offers = share.offers }) room) (sym size) roomier)))

-- What is promised on success holds if there is no error.
pub on_ok : {T E : Type 0} (r : Result T E) (P : Type 0) → is_err r ≡ false → OnOk r P → P
on_ok (Ok v) P e h = h
on_ok (Err v) P e h = absurd (cc)

-- A refusal of a merge, for equal meanings.
pub refuses_same : (m n other same : Meaning) (why : TakeError) → m ≡ n → other ≡ same → RefusesMerge m other why → RefusesMerge n same why
refuses_same m n other same why e f h = subst (λ (k : Meaning). RefusesMerge k same why) e (subst (λ (k : Meaning). RefusesMerge m k why) f h)

-- A share of a merge, for equal meanings.
pub share_same : (m n other same : Meaning) (share : MergePlan) → m ≡ n → other ≡ same → IsMergePlan m other share → IsMergePlan n same share
share_same m n other same share e f h = subst (λ (k : Meaning). IsMergePlan k same share) e (subst (λ (k : Meaning). IsMergePlan m k share) f h)
