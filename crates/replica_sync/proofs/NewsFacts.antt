-- Records of distrust that wait, and those that are taken.
use Rattle.std.proofs.Common.{◌≡◌, ◌≢◌, ℕ, zero, suc, ◌+◌, ◌-◌, ◌≤◌, inl, inr, List, [], ◌∷◌, ◌++◌, length, length-append, refl, sym, ap, ◌∙◌, subst, arith}
use Rattle.std.specs.Prelude.{Contains, Some, slice_get, Ok}
use Rattle.std.specs.List.{AllByRecursion}
use Rattle.std.specs.List.Sorted.{IsStrictlySortedBy}
use Rattle.std.specs.Cmp.{IsTotalOrder}
use Rattle.std.specs.declared.cmp.Ordering.TheVariants.{Less, Greater}
use Rattle.std.specs.Ordering.{ordering_reverse}
use Rattle.std.proofs.lemmas.List.{map-append}
use Rattle.receipt_core.specs.declared.distrust.Distrust.{Distrust}
use Rattle.receipt_core.specs.Receipt.{distrust_cmp}
use Rattle.receipt_core.specs.Rising.{with_item, with_items}
use Rattle.receipt_core.specs.Acceptance.{Meaning, IsMeaning}
use Rattle.receipt_core.specs.Sets.{Always, AreSets}
use Rattle.replica_core.specs.Absorbing.{AreWelcome, IsWelcome, of_records, with_entry}
use Rattle.replica_core.specs.declared.entry.Entry.TheVariants.{Record}
use Rattle.replica_core.proofs.ContainsFacts.{each-from}
use Rattle.replica_core.proofs.UnwelcomeFacts.{record-welcome, welcome-push, with-records, with_items-push}
use Rattle.replica_core.proofs.PlaceFacts.{always, with_item-grows}
use Rattle.replica_core.proofs.RisingListFacts.{rising_append, rising_cons, rising_head, rising_nil, rising_tail}
use Rattle.replica_texts.specs.SoleLines.{IsWellFormed}
use Rattle.replica_journal.specs.Journal.{entry_text}
use Rattle.replica_sync.specs.Inside.Waiting.{IsEmptyNews, MayWait, TakesNews, Waits, held_with}
use Rattle.replica_sync.specs.declared.news.News.{News}

-- ---- no record waits

-- If none waits, nothing has to be shown of those that do.
pub waits_empty : (m : Meaning) (news : News) → IsMeaning m → IsEmptyNews news → Waits m news
waits_empty m news is empty =
    let zero = ap length empty.none in
    let free = empty.free in
    let few = is.few_records in
    record {
      welcome = subst (λ (xs : List Distrust). AreWelcome m (of_records xs)) (sym empty.none) tt;
      rising = subst (IsStrictlySortedBy distrust_cmp) (sym empty.none) (rising_nil distrust_cmp);
      few = omega (arith, zero, free, few);
    }

-- ---- a record that is held already

-- With it, what is held and waits is the same.
pub held_again : (m : Meaning) (news : News) (x : Distrust) → AreSets Always distrust_cmp → IsMeaning m → Contains m.records x
    → held_with news m ≡ with_entry (Record x) (held_with news m)
held_again m news x sets is held =
    let later = news.later.items in
    let all : List Distrust = with_items distrust_cmp later m.records in
    let there : Contains all x = (sets.all_members later m.records x (always later) (always m.records)).1 (inr held) in
    λ i. record m { records = sym (sets.present x all (sets.all_rise later m.records is.records_rising) there) i }

-- ---- a record that may wait

-- What is above the last of a sorted list is above all of it.
above_at : (xs : List Distrust) (n : ℕ) (last x : Distrust) → IsTotalOrder distrust_cmp → IsStrictlySortedBy distrust_cmp xs → suc n ≡ length xs
    → slice_get xs n ≡ Some last → distrust_cmp last x ≡ Less → AllByRecursion (λ y. distrust_cmp y x ≡ Less) xs
above_at [] n last x total rises long at below = tt
above_at (y ∷ []) zero last x total rises long at below =
    let same : Some y ≡ Some last = at in
    let is : y ≡ last = cc in
    (subst (λ (z : Distrust). distrust_cmp z x ≡ Less) (sym is) below, tt)
above_at (y ∷ []) (suc n) last x total rises long at below = absurd (omega (arith, long))
above_at (y ∷ z ∷ zs) zero last x total rises long at below = absurd (omega (arith, long))
above_at (y ∷ z ∷ zs) (suc n) last x total rises long at below =
    let rest = above_at (z ∷ zs) n last x total (rising_tail distrust_cmp y (z ∷ zs) rises) (omega (arith, long)) at below in
    (total.trans y z x (rising_head distrust_cmp y (z ∷ zs) rises).0 rest.0, rest)

-- The same, with the last one named by the length.
pub above_all : (xs : List Distrust) (last x : Distrust) → IsTotalOrder distrust_cmp → IsStrictlySortedBy distrust_cmp xs
    → slice_get xs (length xs - 1) ≡ Some last → distrust_cmp last x ≡ Less → AllByRecursion (λ y. distrust_cmp y x ≡ Less) xs
above_all [] last x total rises at below = tt
above_all (y ∷ ys) last x total rises at below =
    let place : length (y ∷ ys) - 1 ≡ length ys = omega arith in
    above_at (y ∷ ys) (length ys) last x total rises (omega arith)
    (subst (λ (n : ℕ). slice_get (y ∷ ys) n ≡ Some last) place at) below

-- Items make a set longer by at most their number.
with_items-few : (items xs : List Distrust) → length (with_items distrust_cmp items xs) ≤ length items + length xs
with_items-few [] xs = omega arith
with_items-few (i ∷ items) xs =
    let one = with_item-grows distrust_cmp i xs in
    let rest = with_items-few items (with_item distrust_cmp i xs) in
    omega (arith, one.1, rest)

-- It will be taken after those that wait.
taken_then : (m : Meaning) (news : News) (x : Distrust) → Waits m news → MayWait m news x → IsWelcome (held_with news m) (Record x)
taken_then m news x waits may =
    let few = waits.few in
    let place = may.place in
    let all = with_items-few news.later.items m.records in
    record-welcome (held_with news m) x may.domain (inr (omega (arith, few, place, all)))

-- What is below one item is below the list of it.
below_one : (xs : List Distrust) (x : Distrust) → AllByRecursion (λ y. distrust_cmp y x ≡ Less) xs
    → AllByRecursion (λ y. AllByRecursion (λ z. distrust_cmp y z ≡ Less) (x ∷ [])) xs
below_one [] x h = tt
below_one (y ∷ ys) x h = ((h.0, tt), below_one ys x h.1)

-- It waits after the others.
pub waits_more : (m : Meaning) (old new : News) (x : Distrust) → Waits m old → MayWait m old x
    → new.later.items ≡ old.later.items ++ x ∷ [] → new.free + 1 ≡ old.free → Waits m new
waits_more m old new x waits may items free =
    let later = old.later.items in
    let few = waits.few in
    let longer = ap length items ∙ length-append later (x ∷ []) in
    let welcome : AreWelcome m (of_records later ++ Record x ∷ []) =
    welcome-push m (of_records later) (Record x) waits.welcome
    (subst (λ (k : Meaning). IsWelcome k (Record x)) (sym (with-records later m)) (taken_then m old x waits may)) in
    record {
      welcome = subst (λ (xs : List Distrust). AreWelcome m (of_records xs)) (sym items)
          (subst (AreWelcome m) (sym (map-append Record later (x ∷ []))) welcome);
      rising = subst (IsStrictlySortedBy distrust_cmp) (sym items)
          (rising_append distrust_cmp later (x ∷ []) waits.rising
          (rising_cons distrust_cmp x [] tt (rising_nil distrust_cmp)) (below_one later x may.above));
      few = omega (arith, few, longer, free);
    }

-- With it, what is held and waits has it too.
pub held_more : (m : Meaning) (old new : News) (x : Distrust) → new.later.items ≡ old.later.items ++ x ∷ []
    → held_with new m ≡ with_entry (Record x) (held_with old m)
held_more m old new x items = λ i. record m {
  records = (ap (λ (xs : List Distrust). with_items distrust_cmp xs m.records) items
      ∙ with_items-push distrust_cmp old.later.items m.records x) i;
}

-- Nothing is less than itself.
not_below : (x : Distrust) → IsTotalOrder distrust_cmp → distrust_cmp x x ≡ Less → ⊥
not_below x total below =
    let turned : distrust_cmp x x ≡ ordering_reverse (distrust_cmp x x) = total.antisymm x x in
    let greater : Less ≡ Greater = sym below ∙ turned ∙ ap ordering_reverse below in
    absurd (cc)

-- It was not among them.
pub new_record : (m : Meaning) (news : News) (x : Distrust) → AreSets Always distrust_cmp → MayWait m news x
    → with_entry (Record x) (held_with news m) ≢ held_with news m
new_record m news x sets may = λ same.
    let later = news.later.items in
    let all : List Distrust = with_items distrust_cmp later m.records in
    let there : Contains all x =
    subst (λ (l : List Distrust). Contains l x) (ap (λ (k : Meaning). k.records) same)
    ((sets.members x x all tt (always all)).1 (inl refl)) in
    elim ((sets.all_members later m.records x (always later) (always m.records)).0 there) [
      | inl mine ↦ not_below x sets.total (each-from (λ (y : Distrust). distrust_cmp y x ≡ Less) later may.above x mine)
      | inr held ↦ may.unheld held
    ]

-- ---- what a call does

-- It takes a record that is held already.
pub takes_held : (m : Meaning) (news : News) (number : ℕ) (x : Distrust) → AreSets Always distrust_cmp → IsMeaning m → Waits m news
    → Contains m.records x → TakesNews m news number (Record x) m news (Ok 0)
takes_held m news number x sets is waits held = record {
  takes = record { meaning = held_again m news x sets is held; more = omega arith };
  few = omega arith;
  waits = waits;
  journals = inl (refl, refl);
}

-- It lets a record wait.
pub takes_kept : (m : Meaning) (old new : News) (number : ℕ) (x : Distrust) → AreSets Always distrust_cmp → IsWellFormed (Record x)
    → Waits m old → MayWait m old x → new.later.items ≡ old.later.items ++ x ∷ [] → new.free + 1 ≡ old.free
    → new.journal.items ≡ old.journal.items ++ entry_text (Record x) → TakesNews m old number (Record x) m new (Ok 0)
takes_kept m old new number x sets form waits may items free text =
    let more = held_more m old new x items in
    record {
      takes = record { meaning = more; more = omega arith };
      few = omega arith;
      waits = waits_more m old new x waits may items free;
      journals = inr (record {
        entry = Record x;
        form = form;
        meaning = more;
        changed = λ same. new_record m old x sets may (sym more ∙ same);
        text = text;
      });
    }
