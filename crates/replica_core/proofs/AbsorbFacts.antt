-- The entries of an answer: records, and then receipts.
use Rattle.std.proofs.Common.{◌≡◌, ℕ, ◌+◌, ◌<◌, List, [], ◌∷◌, ◌++◌, length, length-append, append_assoc, refl, sym, ap, ◌∙◌, subst, arith}
use Rattle.receipt_core.specs.declared.distrust.Distrust.{Distrust}
use Rattle.receipt_core.specs.Receipt.{Receipt, distrust_cmp}
use Rattle.receipt_core.specs.Rising.{with_items}
use Rattle.receipt_core.specs.Acceptance.{Meaning}
use Rattle.closure_core.specs.declared.error.TakeError.{TakeError}
use Rattle.replica_core.specs.Absorbing.{RefusesEntry, with_entry, AreWelcome, IsFirstRefused, of_receipts, of_records, with_entries}
use Rattle.replica_core.specs.declared.entry.Entry.{Entry}
use Rattle.replica_core.specs.declared.entry.Entry.TheVariants.{Record}
use Rattle.std.proofs.lemmas.List.{length-map}
use Rattle.replica_core.proofs.UnwelcomeFacts.{with-records}

-- Holding two lists of entries is holding one after the other.
with-append : (xs ys : List Entry) (m : Meaning) → with_entries (xs ++ ys) m ≡ with_entries ys (with_entries xs m)
with-append [] ys m = refl
with-append (x ∷ xs) ys m = with-append xs ys (with_entry x m)

-- If a list is welcome, and another once that is held, both together are.
pub welcome-append : (m : Meaning) (xs ys : List Entry) → AreWelcome m xs → AreWelcome (with_entries xs m) ys → AreWelcome m (xs ++ ys)
welcome-append m [] ys front back = back
welcome-append m (x ∷ xs) ys front back = (front.0, welcome-append (with_entry x m) xs ys front.1 back)

-- If both together are welcome, the first list is.
pub welcome-front : (m : Meaning) (xs ys : List Entry) → AreWelcome m (xs ++ ys) → AreWelcome m xs
welcome-front m [] ys all = tt
welcome-front m (x ∷ xs) ys all = (all.0, welcome-front (with_entry x m) xs ys all.1)

-- If both together are welcome, the second list is once the first is held.
pub welcome-back : (m : Meaning) (xs ys : List Entry) → AreWelcome m (xs ++ ys) → AreWelcome (with_entries xs m) ys
welcome-back m [] ys all = all
welcome-back m (x ∷ xs) ys all = welcome-back (with_entry x m) xs ys all.1

-- receipts are welcome once the records are held
pub receipts-welcome : (m : Meaning) (xs : List Distrust) (rs : List Receipt)
    → AreWelcome m (of_records xs ++ of_receipts rs)
    → AreWelcome (record m { records = with_items distrust_cmp xs m.records }) (of_receipts rs)
receipts-welcome m xs rs all = subst (λ (k : Meaning). AreWelcome k (of_receipts rs)) (with-records xs m) (welcome-back m (of_records xs) (of_receipts rs) all)

-- Welcome records, and receipts that are welcome once those are held, make a welcome answer.
pub all-welcome : (m : Meaning) (xs : List Distrust) (rs : List Receipt) → AreWelcome m (of_records xs)
    → AreWelcome (record m { records = with_items distrust_cmp xs m.records }) (of_receipts rs)
    → AreWelcome m (of_records xs ++ of_receipts rs)
all-welcome m xs rs front back =
    welcome-append m (of_records xs) (of_receipts rs) front (subst (λ (k : Meaning). AreWelcome k (of_receipts rs)) (sym (with-records xs m)) back)

-- ---- the first one that is refused

-- The first entry refused of the second list is the first of both, further on by the first list.
first-back : (m : Meaning) (xs ys : List Entry) (number : ℕ) (why : TakeError) → AreWelcome m xs
    → IsFirstRefused (with_entries xs m) ys number why → IsFirstRefused m (xs ++ ys) (length xs + number) why
first-back m xs ys number why front first =
    let place = first.place in
    let size = length-append xs first.before in
    record {
      before = xs ++ first.before;
      entry = first.entry;
      after = first.after;
      parts = ap (λ zs. xs ++ zs) first.parts ∙ sym (append_assoc xs first.before (first.entry ∷ first.after));
      place = omega (arith, place, size);
      welcome = welcome-append m xs first.before front first.welcome;
      cause = subst (λ (k : Meaning). RefusesEntry k first.entry why) (sym (with-append xs first.before m)) first.cause;
      named = first.named;
    }

-- The first receipt that is refused is the first line of the answer that is, after all its records.
pub first-receipt : (m : Meaning) (xs : List Distrust) (rs : List Receipt) (records number : ℕ) (why : TakeError)
    → records ≡ length xs → AreWelcome m (of_records xs)
    → IsFirstRefused (record m { records = with_items distrust_cmp xs m.records }) (of_receipts rs) number why
    → IsFirstRefused m (of_records xs ++ of_receipts rs) (records + number) why
first-receipt m xs rs records number why size front first =
    let same : length (of_records xs) + number ≡ records + number = omega (arith, size, length-map xs Record) in
    subst (λ n. IsFirstRefused m (of_records xs ++ of_receipts rs) n why) same
    (first-back m (of_records xs) (of_receipts rs) number why front
    (subst (λ (k : Meaning). IsFirstRefused k (of_receipts rs) number why) (sym (with-records xs m)) first))

-- The number of a refused line is within those of the answer, so it does not overflow.
pub first-bound : (m : Meaning) (xs : List Entry) (number : ℕ) (why : TakeError) → IsFirstRefused m xs number why → number < length xs + 2
first-bound m xs number why first =
    let place = first.place in
    let whole = ap (λ (zs : List Entry). length zs) first.parts in
    let size = length-append first.before (first.entry ∷ first.after) in
    omega (arith, place, whole, size)
