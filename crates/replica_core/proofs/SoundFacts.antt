-- What a closure can hold: parts of it, and what is answered.
use Rattle.std.proofs.Common.{◌≡◌, ℕ, zero, suc, ◌≤◌, Bool, true, false, cond, ◌&&◌, List, [], ◌∷◌, length, take, min, subst, arith}
use Rattle.std.specs.Prelude.{slice_get, filter, Some, None, not}
use Rattle.std.specs.List.{AllByRecursion}
use Rattle.std.specs.List.Sorted.{IsStrictlySortedBy}
use Rattle.std.specs.declared.cmp.Ordering.{Ordering}
use Rattle.std.proofs.lemmas.List.{length-take}
use Rattle.std.proofs.lemmas.List.Kept.{IsStrictlySortedBy-filter}
use Rattle.fed_config.specs.Configuration.{Configuration, HasDomain}
use Rattle.receipt_core.specs.declared.distrust.Distrust.{Distrust}
use Rattle.receipt_core.specs.Receipt.{Receipt, receipt_cmp, distrust_cmp}
use Rattle.receipt_core.specs.Acceptance.{Meaning, IsMeaning, IsFitting}
use Rattle.replica_core.specs.State.{State, is_of_bucket, is_named, receipts_lacking}
use Rattle.replica_core.specs.Session.{state_of}
use Rattle.replica_core.specs.World.{Message, have_sent, give_sent, sums_sent, marks_sent}
use Rattle.replica_core.specs.Inside.ReplicasInMemory.{give_in_message, CanHold, CanHoldRecords, IsSound}
use Rattle.replica_core.proofs.ContainsFacts.{each-from, each-to, filter-from, take-each}
use Rattle.replica_core.proofs.RisingListFacts.{rising_take}
use Rattle.receipt_core.specs.Limits.{receipt_limit, record_limit}

-- ---- lists that rise

-- A list of one item rises.
pub one-rising : {X : Type 0} (cmp : X → X → Ordering) (x : X) → IsStrictlySortedBy cmp (x ∷ [])
unfolding IsStrictlySortedBy
one-rising cmp x = (tt, tt)

-- ---- what is answered at a place

-- What a sound answer brings can be held.
sound-here : (config : Configuration) (message : Message) (content : State) → IsSound config message
    → give_in_message (Some message) ≡ Some content → CanHold config content.held × CanHoldRecords config content.records
sound-here config (have_sent asker bucket ids) content h e = absurd (let no : None ≡ Some content = e in cc)
sound-here config (give_sent answerer place other) content h e =
    let same : other ≡ content = (let some : Some other ≡ Some content = e in cc) in
    subst (λ (s : State). CanHold config s.held × CanHoldRecords config s.records) same h
sound-here config (sums_sent asker) content h e = absurd (let no : None ≡ Some content = e in cc)
sound-here config (marks_sent answerer place) content h e = absurd (let no : None ≡ Some content = e in cc)

-- What the answer at a place brings can be held.
pub sound-at : (config : Configuration) (sent : List Message) (k : ℕ) (content : State)
    → AllByRecursion (IsSound config) sent → give_in_message (slice_get sent k) ≡ Some content
    → CanHold config content.held × CanHoldRecords config content.records
sound-at config [] k content h e = absurd (let no : None ≡ Some content = e in cc)
sound-at config (message ∷ sent) zero content h e = sound-here config message content h.0 e
sound-at config (message ∷ sent) (suc k) content h e = sound-at config sent k content h.1 e

-- ---- parts of what can be held

-- The front is within the limit of the whole.
few-take : {X : Type 0} (k : ℕ) (xs : List X) (m : ℕ) → length xs ≤ m → length (take k xs) ≤ m
few-take k xs m l = let e : length (take k xs) ≡ min k (length xs) = length-take k xs in omega (arith, e, l)

-- The front of receipts that can be held can be held.
pub can-take : (config : Configuration) (k : ℕ) (rs : List Receipt) → CanHold config rs → CanHold config (take k rs)
can-take config k rs h = record {
  fitting = take-each (IsFitting config) k rs h.fitting;
  rising =
      rising_take receipt_cmp k rs h.rising;
  few = few-take k rs (receipt_limit config) h.few;
}

-- The front of records that can be held can be held.
pub knows-take : (config : Configuration) (k : ℕ) (xs : List Distrust) → CanHoldRecords config xs → CanHoldRecords config (take k xs)
knows-take config k xs h = record {
  domains = take-each (λ x. HasDomain config x.domain) k xs h.domains;
  rising =
      rising_take distrust_cmp k xs h.rising;
  few = few-take k xs (record_limit config) h.few;
}

-- What holds of all items holds of those that are kept.
all-filter : {X : Type 0} (P : X → Type 0) (p : X → Bool) (xs : List X) → AllByRecursion P xs → AllByRecursion P (filter p xs)
all-filter P p xs h = each-to P (filter p xs) (λ x c. each-from P xs h x (filter-from p xs x c).0)

-- One step of `fewer-filtered`, for either outcome of the test.
fewer-kept : {X : Type 0} (b : Bool) (x : X) (ys : List X) (m : ℕ) → length ys ≤ m → length (cond b (x ∷ ys) ys) ≤ suc m
fewer-kept true x ys m l = omega (arith, l)
fewer-kept false x ys m l = omega (arith, l)

-- A filter keeps no more than there are.
fewer-filtered : {X : Type 0} (p : X → Bool) (xs : List X) → length (filter p xs) ≤ length xs
fewer-filtered p [] = omega arith
fewer-filtered p (x ∷ xs) = fewer-kept (p x) x (filter p xs) (length xs) (fewer-filtered p xs)

-- What a closure answers can be held.
pub sound-give : (config : Configuration) (m : Meaning) (bucket : ℕ) (ids : List (List ℕ)) → m.config ≡ config → IsMeaning m
    → CanHold config (receipts_lacking (state_of m) bucket ids) × CanHoldRecords config m.records
sound-give config m bucket ids e h = (
  record {
    fitting = all-filter (IsFitting config) (λ r. is_of_bucket bucket r && not (is_named ids r)) m.held
        (subst (λ (c : Configuration). AllByRecursion (IsFitting c) m.held) e h.fitting);
    rising = IsStrictlySortedBy-filter receipt_cmp (λ r. is_of_bucket bucket r && not (is_named ids r)) m.held h.rising;
    few = let fewer = fewer-filtered (λ r. is_of_bucket bucket r && not (is_named ids r)) m.held in
        let few : length m.held ≤ receipt_limit config = subst (λ c. length m.held ≤ receipt_limit c) e h.few in
        omega (arith, fewer, few);
  },
  record {
    domains = subst (λ (c : Configuration). AllByRecursion (λ x. HasDomain c x.domain) m.records) e h.domains;
    rising = h.records_rising;
    few = subst (λ c. length m.records ≤ record_limit c) e h.few_records;
  },
)
