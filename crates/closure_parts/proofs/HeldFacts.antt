-- What is held
use Rattle.std.proofs.Common.{◌≡◌, ℕ, zero, suc, ◌+◌, ◌<◌, ◌≤◌, inl, inr, List, [], ◌∷◌, ◌++◌, length, get_or, Option}
use Rattle.std.proofs.Common.{Some, None, Bool, true, false, cond, ◌==◌, Less, Equal, Greater, refl, sym, ap, ◌∙◌}
use Rattle.std.proofs.Common.{subst, arith}
use Rattle.std.specs.Prelude.{◌↔◌, Result, Ok, Err}
use Rattle.std.specs.Bool.{IsTrue}
use Rattle.std.specs.Result.{is_ok}
use Rattle.std.specs.Option.{IfSome}
use Rattle.std.specs.declared.cmp.Ordering.{Ordering}
use Rattle.std.specs.Cmp.{IsTotalOrder, then_total, on_total, nat_cmp_total}
use Rattle.std.specs.Ordering.{nat_cmp, ordering_then, is_lt}
use Rattle.std.specs.List.{AllByRecursion, Contains, cons_option, slice_get, slice_index, insert, filter}
use Rattle.std.specs.List.Sorted.{IsStrictlySortedBy}
use Rattle.std.proofs.lemmas.List.Elements.{All-from_recursion, recursion_from_All, All-contains, All-filter, All-contains_itself, filter_passes, filter_agree}
use Rattle.std.proofs.lemmas.List.Kept.{IsStrictlySortedBy-filter}
use Rattle.std.proofs.lemmas.List.Sorted.{searchable_from_sorted}
use Rattle.std.proofs.lemmas.Bool.Decides.{nat_tests}
use Rattle.std.proofs.lemmas.List.{length-append, get_or_default}
use Rattle.fed_config.specs.Configuration.{Configuration}
use Rattle.receipt_core.specs.Order.{receipt_total}
use Rattle.receipt_core.specs.Receipt.{Receipt, IsReceipt, receipt_cmp, with_receipt}
use Rattle.receipt_core.specs.Rising.{with_item}
use Rattle.receipt_core.specs.Acceptance.{IsFitting, Meaning}
use Rattle.receipt_core.proofs.LineFacts.{one_receipt}
use Rattle.receipt_core.proofs.OrderFacts.{both_equal, cmp_equal}
use Rattle.sorted_order.specs.Sequence.{Sequence}
use Rattle.sorted_order.specs.Sought.{IsMissing, IsGap, IsRising, is_equal}
use Rattle.sorted_order.specs.ArenaView.{ArenaView, Arranges, in_order, picked, compared_at, IsNumber, FindsNumber}
use Rattle.sorted_order.proofs.PickedFacts.{length-picked, picked-at, picked-insert, rising_numbers, gap_of_items, Arranges-insert, filter-picked}
use Rattle.closure_core.proofs.RisingFacts.{with_item_at, with_item_rising, sought, sorted, rising_same, each_has, each_from}
use Rattle.closure_core.proofs.MemberFacts.{all_more}
use Rattle.closure_core.specs.Refusals.{RefusesFit}
use Rattle.closure_parts.specs.Held.{IsWellHeld, AreBucketed, bucket_of, bucket_cmp, RefusesNew}
use Rattle.closure_core.specs.AcceptedList.{is_in_bucket, receipts_in}
use Rattle.closure_core.specs.declared.error.TakeError.{TakeError}
use Rattle.closure_core.specs.declared.error.TakeError.TheVariants.{UnknownDomain, WrongEndpoint, BelowFloor, Full, NoMemory, ConfigDiffers}
use Rattle.closure_core.proofs.ContainsFacts.{contains_first, contains_later, contains_none, contains_cases}
use Rattle.closure_parts.specs.Records.{KeptRecords}
use Rattle.receipt_core.specs.Limits.{receipt_limit}
use Rattle.closure_parts.proofs.RecordFacts.{split_lacks}

-- ---- the items with some numbers

-- What holds of all items holds of the one at a place, if there is one.
get_all : {X : Type 0} (P : X → Type 0) (xs : List X) → AllByRecursion P xs → (n : ℕ) → IfSome (slice_get xs n) P
get_all P [] all n = tt
get_all P (x ∷ xs) all zero = all.0
get_all P (x ∷ xs) all (suc n) = get_all P xs all.1 n

-- What holds of a list, and of an option's item, holds of both together.
cons_all : {X : Type 0} (P : X → Type 0) (o : Option X) (rest : List X) → IfSome o P → AllByRecursion P rest → AllByRecursion P (cons_option o rest)
cons_all P None rest h all = all
cons_all P (Some x) rest h all = (h, all)

-- What holds of all items holds of those with some numbers.
pub picked_all : {X : Type 0} (P : X → Type 0) (items : List X) → AllByRecursion P items → (numbers : List ℕ) → AllByRecursion P (picked items numbers)
picked_all P items all [] = tt
picked_all P items all (n ∷ ns) = cons_all P (slice_get items n) (picked items ns) (get_all P items all n) (picked_all P items all ns)

-- The number of items in order is that of all items.
pub length_in_order : (stock : ArenaView Receipt) → Arranges stock.order (length stock.items) → length (in_order stock) ≡ length stock.items
length_in_order stock arranged = length-picked stock.items stock.order arranged.within ∙ arranged.counted

-- ---- a search among them

-- A receipt that the search finds is held.
pub found_held : (stock : ArenaView Receipt) (r : Receipt) (number : ℕ) → AllByRecursion IsReceipt stock.items → IsReceipt r
    → IsNumber (λ s. receipt_cmp s r) stock number → Contains (in_order stock) r
found_held stock r number all is found =
    let held : AllByRecursion IsReceipt (in_order stock) = picked_all IsReceipt stock.items all stock.order in
    let at : IsReceipt (get_or (in_order stock) found.place r) = All-from_recursion IsReceipt (in_order stock) held found.place r found.found.within in
    (found.place, found.found.within, one_receipt (get_or (in_order stock) found.place r) r at is (found.found.here r))

-- A receipt that the search does not find is not held.
pub missing_lacks : (xs : List Receipt) (r : Receipt) (place : ℕ) → IsMissing (λ s. receipt_cmp s r) xs place → Contains xs r → ⊥
missing_lacks xs r place missing has = split_lacks receipt_total xs r place missing.before missing.after has

-- A receipt that is not found is added by putting it at the end of the search.
pub missing_inserts : (xs : List Receipt) (r : Receipt) (place : ℕ) → IsMissing (λ s. receipt_cmp s r) xs place → with_receipt r xs ≡ insert xs place r
missing_inserts xs r place missing = with_item_at receipt_total r xs place missing.within missing.before missing.after

-- What a search returns says whether the receipt is held.
pub finds_held : (stock : ArenaView Receipt) (r : Receipt) (found : Result ℕ ℕ) → AllByRecursion IsReceipt stock.items
    → IsReceipt r → FindsNumber (λ s. receipt_cmp s r) stock found → IsTrue (is_ok found) ↔ Contains (in_order stock) r
finds_held stock r (Ok number) all is found = (λ t. found_held stock r number all is found, λ has. refl)
finds_held stock r (Err place) all is missing = (λ t. absurd (cc), λ has. absurd (missing_lacks (in_order stock) r place missing has))

-- ---- what is so of the items in their order is so of each

-- What is read within the list is there.
slice_get_at : {X : Type 0} (xs : List X) (k : ℕ) (d : X) → k < length xs → slice_get xs k ≡ Some (get_or xs k d)
slice_get_at [] k d below = absurd (omega arith)
slice_get_at (y ∷ ys) zero d below = refl
slice_get_at (y ∷ ys) (suc k) d below = slice_get_at ys k d (omega arith)

-- What holds of the items in their order holds of the one with each number.
all_numbers : (P : Receipt → Type 0) (items : List Receipt) (order : List ℕ) → Arranges order (length items)
    → AllByRecursion P (picked items order) → (n : ℕ) (d : Receipt) → n < length items → P (get_or items n d)
all_numbers P items order arranged all n d below =
    let place = arranged.each n below in
    let size : length (picked items order) ≡ length order = length-picked items order arranged.within in
    let inside : place.0 < length (picked items order) = omega (arith, place.1) in
    let here : P (get_or (picked items order) place.0 d) = All-from_recursion P (picked items order) all place.0 d inside in
    let found : slice_get items (slice_index order place.0) ≡ Some (get_or (picked items order) place.0 d) =
    picked-at items order place.0 d arranged.within place.1 in
    let number : slice_index order place.0 ≡ n = get_or_default order place.0 0 n place.1 ∙ place.2 in
    let own : slice_get items n ≡ Some (get_or items n d) = slice_get_at items n d below in
    let same : Some (get_or (picked items order) place.0 d) ≡ Some (get_or items n d) = sym found ∙ ap (slice_get items) number ∙ own in
    let one : get_or (picked items order) place.0 d ≡ get_or items n d = cc in
    subst P one here

-- What holds of the items in their order holds of all.
pub all_items : (P : Receipt → Type 0) (items : List Receipt) (order : List ℕ) → Arranges order (length items)
    → AllByRecursion P (picked items order) → AllByRecursion P items
all_items P items order arranged all = recursion_from_All P items (all_numbers P items order arranged all)

-- ---- the order of buckets

-- The order by buckets is total.
pub bucket_total : IsTotalOrder bucket_cmp
bucket_total = then_total (on_total bucket_of nat_cmp_total) receipt_total

-- Receipts in the order of buckets rise for the search of one.
pub bucket_sought : (items lent : List Receipt) (buckets : List ℕ) (r s : Receipt) → Arranges buckets (length items)
    → IsStrictlySortedBy bucket_cmp (picked items buckets) → lent ≡ items → s ≡ r
    → IsRising (λ n. compared_at (λ x. bucket_cmp x s) lent n) buckets
bucket_sought items lent buckets r s arranged rising same e =
    subst (λ xs. IsRising (λ n. compared_at (λ x. bucket_cmp x s) xs n) buckets) (sym same)
    (rising_numbers (λ x. bucket_cmp x s) items buckets arranged.within record { rising = sought bucket_total (picked items buckets) s rising })

-- a receipt that is not held ties with none
abbrev IsOther : Receipt → Receipt → Type 0
IsOther r s = receipt_cmp s r ≡ Equal → ⊥

-- A receipt that is not held ties with none that is.
others : (held : List Receipt) (r : Receipt) → IsReceipt r → AllByRecursion IsReceipt held → (Contains held r → ⊥) → AllByRecursion (IsOther r) held
others held r is all unheld =
    each_from (IsOther r) held (λ s has tied. unheld (subst (Contains held) (one_receipt s r (each_has IsReceipt held s all has) is tied) has))

-- One that ties with none, and does not come before, comes after.
bucket_after : (x r : Receipt) → IsOther r x → (bucket_cmp x r ≡ Less → ⊥) → (o : Ordering) → bucket_cmp x r ≡ o → o ≡ Greater
bucket_after x r other not_below Less e = absurd (not_below e)
bucket_after x r other not_below Equal e = absurd (other (both_equal (nat_cmp (bucket_of x) (bucket_of r)) (receipt_cmp x r) e).1)
bucket_after x r other not_below Greater e = refl

-- In the order of buckets a receipt is added by putting it into its gap.
pub bucket_inserts : (items : List Receipt) (buckets : List ℕ) (r : Receipt) (spot : ℕ)
    → Arranges buckets (length items) → AllByRecursion (IsOther r) items
    → IsGap (λ n. compared_at (λ x. bucket_cmp x r) items n) buckets spot
    → with_item bucket_cmp r (picked items buckets) ≡ insert (picked items buckets) spot r
bucket_inserts items buckets r spot arranged other gap =
    let here : IsGap (λ x. bucket_cmp x r) (picked items buckets) spot = gap_of_items (λ x. bucket_cmp x r) items buckets spot arranged.within gap in
    let apart : AllByRecursion (IsOther r) (picked items buckets) = picked_all (IsOther r) items other buckets in
    with_item_at bucket_total r (picked items buckets) spot here.within here.before
    (λ k d low high. bucket_after (get_or (picked items buckets) k d) r
    (All-from_recursion (IsOther r) (picked items buckets) apart k d high) (here.after k d low high) _ refl)

-- ---- one receipt more

-- All receipts are in the order of buckets after one is put into its gap.
pub bucketed_more : (c : Configuration) (stock : ArenaView Receipt) (buckets newer : Sequence) (items : List Receipt) (records : KeptRecords)
    (r : Receipt) (place spot : ℕ) → IsWellHeld c stock (Some buckets) records → IsReceipt r
    → IsMissing (λ s. receipt_cmp s r) (in_order stock) place
    → IsGap (λ n. compared_at (λ x. bucket_cmp x r) stock.items n) buckets.items spot → items ≡ stock.items ++ r ∷ []
    → newer.items ≡ insert buckets.items spot (length stock.items) → AreBucketed items newer
bucketed_more c stock buckets newer items records r place spot hoard is missing gap more bucketed =
    let size : length items ≡ length stock.items + 1 = ap length more ∙ length-append stock.items (r ∷ []) in
    let counts = hoard.bucketed.arranged.counted in
    let gap_within = gap.within in
    let unheld : Contains (in_order stock) r → ⊥ = missing_lacks (in_order stock) r place missing in
    let other : AllByRecursion (IsOther r) stock.items =
    all_items (IsOther r) stock.items stock.order hoard.arranged
    (others (in_order stock) r is (picked_all IsReceipt stock.items hoard.receipts stock.order) unheld) in
    let arranged : Arranges (insert buckets.items spot (length stock.items)) (length stock.items + 1) =
    Arranges-insert buckets.items (length stock.items) spot hoard.bucketed.arranged gap_within in
    let in_buckets : picked items newer.items ≡ with_item bucket_cmp r (picked stock.items buckets.items) =
    ap (λ xs. picked xs newer.items) more ∙ ap (picked (stock.items ++ r ∷ [])) bucketed
    ∙ picked-insert stock.items buckets.items spot r hoard.bucketed.arranged.within
    ∙ sym (bucket_inserts stock.items buckets.items r spot hoard.bucketed.arranged other gap) in
    record {
      arranged = subst (λ n. Arranges newer.items n) (sym size)
          (subst (λ ns. Arranges ns (length stock.items + 1)) (sym bucketed) arranged);
      rising = subst (IsStrictlySortedBy bucket_cmp) (sym in_buckets)
          (with_item_rising bucket_total r (picked stock.items buckets.items) hoard.bucketed.rising);
    }

-- What is held is still in order after a receipt is taken.
pub hoard_more : (c : Configuration) (stock new : ArenaView Receipt) (buckets newer : Option Sequence) (records : KeptRecords)
    (r : Receipt) (place : ℕ) → IsWellHeld c stock buckets records → IsReceipt r → IsFitting c r
    → length stock.items < receipt_limit c → IsMissing (λ s. receipt_cmp s r) (in_order stock) place
    → new.items ≡ stock.items ++ r ∷ []
    → in_order new ≡ insert (in_order stock) place r → new.order ≡ insert stock.order place (length stock.items)
    → IfSome newer (AreBucketed new.items) → IsWellHeld c new newer records
hoard_more c stock new buckets newer records r place hoard is fits few missing items ordered order bucketed =
    let size : length new.items ≡ length stock.items + 1 = ap length items ∙ length-append stock.items (r ∷ []) in
    let counted : length (in_order stock) ≡ length stock.items = length_in_order stock hoard.arranged in
    let counts = hoard.arranged.counted in
    let missing_within = missing.within in
    let place_within : place ≤ length stock.order = omega arith in
    let arranged : Arranges (insert stock.order place (length stock.items)) (length stock.items + 1) =
    Arranges-insert stock.order (length stock.items) place hoard.arranged place_within in
    record {
      configuration = hoard.configuration;
      within = hoard.within;
      keys = hoard.keys;
      records_rising = hoard.records_rising;
      few_records = hoard.few_records;
      limit = hoard.limit;
      receipts = subst (AllByRecursion IsReceipt) (sym items) (all_more IsReceipt stock.items r hoard.receipts is);
      fitting = subst (AllByRecursion (IsFitting c)) (sym items) (all_more (IsFitting c) stock.items r hoard.fitting fits);
      rising = subst (IsStrictlySortedBy receipt_cmp) (missing_inserts (in_order stock) r place missing ∙ sym ordered)
          (with_item_rising receipt_total r (in_order stock) hoard.rising);
      few = omega arith;
      arranged = subst (λ n. Arranges new.order n) (sym size) (subst (λ ns. Arranges ns (length stock.items + 1)) (sym order) arranged);
      bucketed = bucketed;
    }

-- ---- why a receipt is refused

-- Why a receipt does not fit is why it is refused.
pub misfit_repels : (m : Meaning) (r : Receipt) (why : TakeError) → RefusesFit m.config r why → RefusesNew m r why
misfit_repels m r UnknownDomain h = h
misfit_repels m r WrongEndpoint h = h
misfit_repels m r BelowFloor h = h
misfit_repels m r Full h = absurd h
misfit_repels m r NoMemory h = absurd h
misfit_repels m r ConfigDiffers h = absurd h

-- ---- the receipts of a bucket

-- What is not less by two comparisons is not less by the first.
then_not_less : (a b : Ordering) → is_lt (ordering_then a b) ≡ false → is_lt a ≡ false
then_not_less Less b e = e
then_not_less Equal b e = refl
then_not_less Greater b e = refl

-- Receipts in the order of buckets rise for the search of a bucket.
pub buckets_rise : (items lent : List Receipt) (buckets : List ℕ) (b c : ℕ) → Arranges buckets (length items)
    → IsStrictlySortedBy bucket_cmp (picked items buckets) → lent ≡ items → c ≡ b
    → IsRising (λ n. compared_at (λ r. nat_cmp (bucket_of r) c) lent n) buckets
buckets_rise items lent buckets b c arranged rising same e =
    subst (λ xs. IsRising (λ n. compared_at (λ r. nat_cmp (bucket_of r) c) xs n) buckets) (sym same)
    (rising_numbers (λ r. nat_cmp (bucket_of r) c) items buckets arranged.within record {
      rising = searchable_from_sorted nat_cmp_total bucket_of (picked items buckets) c
          (λ k d low high. then_not_less
          (nat_cmp (bucket_of (get_or (picked items buckets) (k + 1) d))
          (bucket_of (get_or (picked items buckets) k d)))
          (receipt_cmp (get_or (picked items buckets) (k + 1) d) (get_or (picked items buckets) k d))
          (sorted bucket_total (picked items buckets) rising k d low high));
    })

-- The test of the comparison is the test of the numbers.
equal_is : (x y : ℕ) → is_equal (nat_cmp x y) ≡ (x == y)
equal_is x y = grind (arith, nat_tests)

-- Numbers that the test finds equal are equal.
from_equal : (x y : ℕ) → (x == y) ≡ true → x ≡ y
from_equal x y e = grind (arith, nat_tests)

-- Within one bucket, what comes before others by bucket comes before them by line.
below_one : (b : ℕ) (x : Receipt) (xs : List Receipt) → bucket_of x ≡ b → AllByRecursion (λ r. bucket_of r ≡ b) xs
    → AllByRecursion (λ y. bucket_cmp x y ≡ Less) xs → AllByRecursion (λ y. receipt_cmp x y ≡ Less) xs
below_one b x [] here all below = tt
below_one b x (y ∷ ys) here all below = (
  sym (ap (λ o. ordering_then o (receipt_cmp x y)) (cmp_equal (bucket_of x) (bucket_of y) (here ∙ sym all.0)))
      ∙ below.0,
  below_one b x ys here all.1 below.1,
)

-- Receipts of one bucket, in the order of buckets, are in the order of lines.
one_bucket : (b : ℕ) (xs : List Receipt) → AllByRecursion (λ r. bucket_of r ≡ b) xs → IsStrictlySortedBy bucket_cmp xs → IsStrictlySortedBy receipt_cmp xs
unfolding IsStrictlySortedBy
one_bucket b [] all rising = tt
one_bucket b (x ∷ xs) all rising = (below_one b x xs all.0 all.1 rising.0, one_bucket b xs all.1 rising.1)

-- What is in the rest remains, whether an item is added or not.
cond_later : {X : Type 0} (b : Bool) (x y : X) (rest : List X) → Contains rest y → Contains (cond b (x ∷ rest) rest) y
cond_later true x y rest has = contains_later x rest y has
cond_later false x y rest has = has

-- An item that passes is kept.
pub filter_gets : {X : Type 0} (p : X → Bool) (xs : List X) (y : X) → Contains xs y → p y ≡ true → Contains (filter p xs) y
filter_gets p [] y has passes = absurd (contains_none y has)
filter_gets p (x ∷ xs) y has passes = elim (contains_cases x xs y has) [
  | inl e ↦
      let first : p x ≡ true = ap p e ∙ passes in
      subst (λ b. Contains (cond b (x ∷ filter p xs) (filter p xs)) y) (sym first) (subst (Contains (x ∷ filter p xs)) e (contains_first x (filter p xs)))
  | inr later ↦ cond_later (p x) x y (filter p xs) (filter_gets p xs y later passes)
]

-- An item that is kept was there.
pub filter_in : {X : Type 0} (p : X → Bool) (xs : List X) (y : X) → Contains (filter p xs) y → Contains xs y
filter_in p xs y has = All-contains (Contains xs) (filter p xs) y (All-filter p (Contains xs) xs (All-contains_itself xs)) has

-- An item that is kept passes.
pub filter_test : {X : Type 0} (p : X → Bool) (xs : List X) (y : X) → Contains (filter p xs) y → p y ≡ true
filter_test p xs y has = All-contains (λ x. p x ≡ true) (filter p xs) y (filter_passes p xs) has

-- A picked item is one of the items.
picked_in : (items : List Receipt) (numbers : List ℕ) (y : Receipt) → Contains (picked items numbers) y → Contains items y
picked_in items numbers y has =
    each_has (Contains items) (picked items numbers) y
    (picked_all (Contains items) items (recursion_from_All (Contains items) items (All-contains_itself items)) numbers)
    has

-- Each item is picked if the order has all numbers.
in_picked : (items : List Receipt) (order : List ℕ) (y : Receipt) → Arranges order (length items) → Contains items y → Contains (picked items order) y
in_picked items order y arranged has =
    each_has (Contains (picked items order)) items y
    (all_items (Contains (picked items order)) items order arranged
    (recursion_from_All (Contains (picked items order)) (picked items order)
    (All-contains_itself (picked items order)))) has

-- The receipts of a bucket in one order are those in another.
moved : (items : List Receipt) (from to : List ℕ) (b : ℕ) (y : Receipt) → Arranges to (length items)
    → Contains (filter (is_in_bucket b) (picked items from)) y → Contains (filter (is_in_bucket b) (picked items to)) y
moved items from to b y arranged has =
    filter_gets (is_in_bucket b) (picked items to) y
    (in_picked items to y arranged (picked_in items from y (filter_in (is_in_bucket b) (picked items from) y has)))
    (filter_test (is_in_bucket b) (picked items from) y has)

-- The stretch of a bucket, in the order of buckets, is the list of the bucket's receipts by line.
pub bucket_list : (stock : ArenaView Receipt) (buckets : List ℕ) (b : ℕ) → Arranges stock.order (length stock.items)
    → Arranges buckets (length stock.items) → IsStrictlySortedBy receipt_cmp (in_order stock)
    → IsStrictlySortedBy bucket_cmp (picked stock.items buckets)
    → picked stock.items (filter (λ n. is_equal (compared_at (λ r. nat_cmp (bucket_of r) b) stock.items n)) buckets)
    ≡ receipts_in b (in_order stock)
bucket_list stock buckets b arranged bucketed rising bucket_rising =
    let all : AllByRecursion (λ r. bucket_of r ≡ b) (filter (is_in_bucket b) (picked stock.items buckets)) =
    each_from (λ r. bucket_of r ≡ b) (filter (is_in_bucket b) (picked stock.items buckets))
    (λ r has. from_equal (bucket_of r) b (filter_test (is_in_bucket b) (picked stock.items buckets) r has)) in
    filter-picked (λ r. nat_cmp (bucket_of r) b) stock.items buckets bucketed.within
    ∙ filter_agree (λ r. is_equal (nat_cmp (bucket_of r) b)) (is_in_bucket b) (λ r. equal_is (bucket_of r) b) (picked stock.items buckets)
    ∙ rising_same receipt_total (filter (is_in_bucket b) (picked stock.items buckets)) (filter (is_in_bucket b) (in_order stock))
    (one_bucket b (filter (is_in_bucket b) (picked stock.items buckets)) all
    (IsStrictlySortedBy-filter bucket_cmp (is_in_bucket b) (picked stock.items buckets) bucket_rising))
    (IsStrictlySortedBy-filter receipt_cmp (is_in_bucket b) (in_order stock) rising)
    (λ y has. moved stock.items buckets stock.order b y arranged has) (λ y has. moved stock.items stock.order buckets b y bucketed has)
