-- Which entry of a list is the first that is not welcome.
use Rattle.std.proofs.Common.{◌≡◌, ◌≢◌, true, false, ℕ, zero, suc, ◌+◌, ◌-◌, ◌<◌, ◌⊎◌, inl, inr, List, [], ◌∷◌, ◌++◌}
use Rattle.std.proofs.Common.{length, get_or, take, drop, refl, sym, ap, ◌∙◌, subst, arith}
use Rattle.std.specs.Prelude.{Contains, slice_get, Option, Some, None}
use Rattle.std.specs.declared.cmp.Ordering.{Ordering}
use Rattle.std.specs.Option.{is_some}
use Rattle.std.specs.List.{AllByRecursion}
use Rattle.std.proofs.Math.Seq.{take-suc}
use Rattle.std.proofs.lemmas.List.{map-append, length-map, length-take-le}
use Rattle.fed_config.specs.Configuration.{Configuration, IsConfiguration, HasDomain, AreDomains, IsPlace}
use Rattle.receipt_core.specs.declared.distrust.Distrust.{Distrust}
use Rattle.receipt_core.specs.Receipt.{Receipt, receipt_cmp, distrust_cmp}
use Rattle.receipt_core.specs.Rising.{with_item, with_items}
use Rattle.receipt_core.specs.Acceptance.{IsFitting, Meaning}
use Rattle.closure_core.specs.Refusals.{RefusesFit}
use Rattle.closure_core.specs.declared.error.TakeError.{TakeError}
use Rattle.closure_core.specs.declared.error.TakeError.TheVariants.{UnknownDomain, WrongEndpoint, BelowFloor, Full, NoMemory as NoTakeMemory}
use Rattle.closure_core.specs.declared.error.TakeError.TheVariants.{ConfigDiffers as OtherConfig}
use Rattle.replica_core.specs.Absorbing.{RefusesEntry, with_entry, AreWelcome, IsFirstRefused, IsWelcome, of_receipts, of_records, with_entries}
use Rattle.replica_core.specs.Inside.FreePlaces.{HasPlaces}
use Rattle.replica_core.specs.declared.entry.Entry.{Entry}
use Rattle.replica_core.specs.declared.entry.Entry.TheVariants.{Record, Receipt as AReceipt}
use Rattle.replica_core.proofs.ContainsFacts.{contains-here, contains-later}
use Rattle.closure_core.proofs.FitFacts.{fits_right, fits_above}
use Rattle.receipt_core.specs.Limits.{receipt_limit, record_limit}

-- ---- lists

-- A list is what comes before a place, the item there, and the rest.
cut : {X : Type 0} (xs : List X) (i : ℕ) (x : X) → i < length xs → get_or xs i x ≡ x → xs ≡ take i xs ++ x ∷ drop (suc i) xs
cut [] i x l e = absurd (omega (arith, l))
cut (y ∷ ys) zero x l e = ap (λ z. z ∷ ys) e
cut (y ∷ ys) (suc i) x l e = ap (λ zs. y ∷ zs) (cut ys i x (omega (arith, l)) e)

-- The front that is longer by one has the item there at its end.
pub take-next : {X : Type 0} (xs : List X) (i : ℕ) (x : X) → i < length xs → get_or xs i x ≡ x → take (i + 1) xs ≡ take i xs ++ x ∷ []
take-next xs i x l e =
    let one : i + 1 ≡ suc i = omega arith in
    ap (λ n. take n xs) one ∙ take-suc xs i x l ∙ ap (λ y. take i xs ++ y ∷ []) e

-- Adding one more item comes last.
pub with_items-push : {X : Type 0} (cmp : X → X → Ordering) (items set : List X) (x : X)
    → with_items cmp (items ++ x ∷ []) set ≡ with_item cmp x (with_items cmp items set)
with_items-push cmp [] set x = refl
with_items-push cmp (y ∷ items) set x = with_items-push cmp items (with_item cmp y set) x

-- What is at a place is contained.
get-contains : {X : Type 0} (xs : List X) (n : ℕ) (x : X) → slice_get xs n ≡ Some x → Contains xs x
get-contains [] n x e = absurd (let f : None ≡ Some x = e in cc)
get-contains {X} (y ∷ ys) zero x e = subst (Contains (y ∷ ys)) (let s : Some y ≡ Some x = e in cc) (contains-here y ys)
get-contains (y ∷ ys) (suc n) x e = contains-later y ys x (get-contains ys n x e)

-- What holds of all items, and of one more, holds of the longer list.
pub all-push : {X : Type 0} (P : X → Type 0) (xs : List X) (x : X) → AllByRecursion P xs → P x → AllByRecursion P (xs ++ x ∷ [])
all-push P [] x h p = (p, tt)
all-push P (y ∷ ys) x h p = (h.0, all-push P ys x h.1 p)

-- ---- what is welcome

-- Welcome entries with one more that is welcome once they are held.
pub welcome-push : (m : Meaning) (entries : List Entry) (entry : Entry) → AreWelcome m entries
    → IsWelcome (with_entries entries m) entry → AreWelcome m (entries ++ entry ∷ [])
welcome-push m [] entry welcome is = (is, tt)
welcome-push m (first ∷ entries) entry welcome is = (welcome.0, welcome-push (with_entry first m) entries entry welcome.1 is)

-- The meaning that holds a list of records, by its parts.
pub with-records : (xs : List Distrust) (m : Meaning) → with_entries (of_records xs) m ≡ record m { records = with_items distrust_cmp xs m.records }
with-records [] m = refl
with-records (x ∷ xs) m = with-records xs (with_entry (Record x) m)

-- The meaning that holds a list of receipts, by its parts.
pub with-receipts : (rs : List Receipt) (m : Meaning) → with_entries (of_receipts rs) m ≡ record m { held = with_items receipt_cmp rs m.held }
with-receipts [] m = refl
with-receipts (r ∷ rs) m = with-receipts rs (with_entry (AReceipt r) m)

-- A domain that has a place is one of the configuration.
pub known : (c : Configuration) (domain : List ℕ) (domains : List (List ℕ)) (place : Option ℕ) → AreDomains c domains
    → IsPlace c domain place → is_some place ≡ true → HasDomain c domain
known c domain domains None are at e = absurd (cc)
known c domain domains (Some n) are at e = are.sound domain (get-contains domains n domain (at domains are))

-- A domain without a place is not one of the configuration.
pub unknown : (c : Configuration) (domain : List ℕ) (place : Option ℕ) → IsPlace c domain place → is_some place ≡ false → HasDomain c domain → ⊥
unknown c domain None at e = at
unknown c domain (Some n) at e = absurd (cc)

-- A record of a known domain is welcome if it is held or there is a place.
pub record-welcome : (m : Meaning) (x : Distrust) → HasDomain m.config x.domain
    → Contains m.records x ⊎ (length m.records < record_limit m.config) → (why : TakeError) → why ≢ NoTakeMemory
    → RefusesEntry m (Record x) why → ⊥
record-welcome m x domain place UnknownDomain ample h = h domain
record-welcome m x domain place WrongEndpoint ample h = h
record-welcome m x domain place BelowFloor ample h = h
record-welcome m x domain place Full ample h = elim place [ inl has ↦ h.unheld has | inr few ↦ let full = h.full in omega (arith, full, few) ]
record-welcome m x domain place NoTakeMemory ample h = h
record-welcome m x domain place OtherConfig ample h = h

-- A receipt that fits is welcome if it is held or there is a place.
receipt-welcome : (m : Meaning) (r : Receipt) → IsConfiguration m.config → IsFitting m.config r
    → Contains m.held r ⊎ (length m.held < receipt_limit m.config) → (why : TakeError) → why ≢ NoTakeMemory
    → RefusesEntry m (AReceipt r) why → ⊥
receipt-welcome m r form fits place UnknownDomain ample h = h fits.relationship fits.has fits.domain
receipt-welcome m r form fits place WrongEndpoint ample h = fits_right m.config r form fits h
receipt-welcome m r form fits place BelowFloor ample h = fits_above m.config r fits h
receipt-welcome m r form fits place Full ample h = elim place [ inl has ↦ h.unheld has | inr few ↦ let full = h.full in omega (arith, full, few) ]
receipt-welcome m r form fits place NoTakeMemory ample h = ample refl
receipt-welcome m r form fits place OtherConfig ample h = h

-- ---- one record more

-- A record of a known domain with a place is the next welcome one: the loop's step.
pub record-judged : (m : Meaning) (all : List Distrust) (i : ℕ) (x : Distrust) → i < length all → get_or all i x ≡ x
    → AreWelcome m (of_records (take i all)) → HasDomain m.config x.domain
    → Contains (with_items distrust_cmp (take i all) m.records) x
    ⊎ (length (with_items distrust_cmp (take i all) m.records) < record_limit m.config)
    → AreWelcome m (of_records (take (i + 1) all))
record-judged m all i x l e welcome domain place =
    let set = with_items distrust_cmp (take i all) m.records in
    let pushed : of_records (take (i + 1) all) ≡ of_records (take i all) ++ Record x ∷ [] =
    ap of_records (take-next all i x l e) ∙ map-append Record (take i all) (x ∷ []) in
    subst (AreWelcome m) (sym pushed)
    (welcome-push m (of_records (take i all)) (Record x) welcome
    (subst (λ (k : Meaning). IsWelcome k (Record x)) (sym (with-records (take i all) m)) (record-welcome (record m { records = set }) x domain place)))

-- A receipt that fits and has a place is the next welcome one: the loop's step.
pub receipt-judged : (m : Meaning) (all : List Receipt) (i : ℕ) (r : Receipt) → i < length all → get_or all i r ≡ r
    → AreWelcome m (of_receipts (take i all)) → IsConfiguration m.config → IsFitting m.config r
    → Contains (with_items receipt_cmp (take i all) m.held) r
    ⊎ (length (with_items receipt_cmp (take i all) m.held) < receipt_limit m.config) → AreWelcome m (of_receipts (take (i + 1) all))
receipt-judged m all i r l e welcome form fits place =
    let set = with_items receipt_cmp (take i all) m.held in
    let pushed : of_receipts (take (i + 1) all) ≡ of_receipts (take i all) ++ AReceipt r ∷ [] =
    ap of_receipts (take-next all i r l e) ∙ map-append AReceipt (take i all) (r ∷ []) in
    subst (AreWelcome m) (sym pushed)
    (welcome-push m (of_receipts (take i all)) (AReceipt r) welcome
    (subst (λ (k : Meaning). IsWelcome k (AReceipt r)) (sym (with-receipts (take i all) m)) (receipt-welcome (record m { held = set }) r form fits place)))

-- The places that are free for the items left, after one more.
pub places-next : {X : Type 0} (cmp : X → X → Ordering) (limit : ℕ) (all set : List X) (i more : ℕ) (x : X) → i < length all → get_or all i x ≡ x
    → HasPlaces limit (length (with_item cmp x (with_items cmp (take i all) set))) more (length all - i - 1)
    → HasPlaces limit (length (with_items cmp (take (i + 1) all) set)) more (length all - (i + 1))
places-next {X} cmp limit all set i more x l e places =
    let grown : with_items cmp (take (i + 1) all) set ≡ with_item cmp x (with_items cmp (take i all) set) =
    ap (λ (xs : List X). with_items cmp xs set) (take-next all i x l e) ∙ with_items-push cmp (take i all) set x in
    let fewer : length all - i - 1 ≡ length all - (i + 1) = omega arith in
    subst (λ n. HasPlaces limit (length (with_items cmp (take (i + 1) all) set)) more n) fewer
    (subst (λ (xs : List X). HasPlaces limit (length xs) more (length all - i - 1)) (sym grown) places)

-- ---- the first one that is refused

-- The record at a place is the first that is refused.
pub record-refused : (m : Meaning) (all : List Distrust) (i : ℕ) (x : Distrust) (why : TakeError) → i < length all
    → get_or all i x ≡ x → AreWelcome m (of_records (take i all))
    → RefusesEntry (record m { records = with_items distrust_cmp (take i all) m.records }) (Record x) why
    → why ≢ NoTakeMemory → IsFirstRefused m (of_records all) (i + 2) why
record-refused m all i x why l e welcome cause named =
    let size : length (of_records (take i all)) ≡ length (take i all) = length-map (take i all) Record in
    let front = length-take-le i all (omega (arith, l)) in
    record {
      before = of_records (take i all);
      entry = Record x;
      after = of_records (drop (suc i) all);
      parts = ap of_records (cut all i x l e) ∙ map-append Record (take i all) (x ∷ drop (suc i) all);
      place = omega (arith, size, front);
      welcome = welcome;
      cause = subst (λ (k : Meaning). RefusesEntry k (Record x) why) (sym (with-records (take i all) m)) cause;
      named = named;
    }

-- The receipt at a place is the first that is refused.
pub receipt-refused : (m : Meaning) (all : List Receipt) (i : ℕ) (r : Receipt) (why : TakeError) → i < length all
    → get_or all i r ≡ r → AreWelcome m (of_receipts (take i all))
    → RefusesEntry (record m { held = with_items receipt_cmp (take i all) m.held }) (AReceipt r) why
    → why ≢ NoTakeMemory → IsFirstRefused m (of_receipts all) (i + 2) why
receipt-refused m all i r why l e welcome cause named =
    let size : length (of_receipts (take i all)) ≡ length (take i all) = length-map (take i all) AReceipt in
    let front = length-take-le i all (omega (arith, l)) in
    record {
      before = of_receipts (take i all);
      entry = AReceipt r;
      after = of_receipts (drop (suc i) all);
      parts = ap of_receipts (cut all i r l e) ∙ map-append AReceipt (take i all) (r ∷ drop (suc i) all);
      place = omega (arith, size, front);
      welcome = welcome;
      cause = subst (λ (k : Meaning). RefusesEntry k (AReceipt r) why) (sym (with-receipts (take i all) m)) cause;
      named = named;
    }

-- what misfits is refused for that cause, whatever is held
pub misfit-refused : (m : Meaning) (r : Receipt) (why : TakeError) → RefusesFit m.config r why → (RefusesEntry m (AReceipt r) why) × (why ≢ NoTakeMemory)
misfit-refused m r UnknownDomain h = (h, λ e. absurd (cc))
misfit-refused m r WrongEndpoint h = (h, λ e. absurd (cc))
misfit-refused m r BelowFloor h = (h, λ e. absurd (cc))
misfit-refused m r Full h = absurd h
misfit-refused m r NoTakeMemory h = absurd h
misfit-refused m r OtherConfig h = absurd h
