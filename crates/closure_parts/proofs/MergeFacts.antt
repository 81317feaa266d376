-- What a closure takes in from another one
use Rattle.std.proofs.Common.{◌≡◌, ℕ, ◌+◌, ◌<◌, ◌≤◌, ◌⊎◌, ◌↔◌, inl, inr, Bool, true, false, not, nat_eq, List, [], ◌∷◌}
use Rattle.std.proofs.Common.{◌++◌, length, refl, sym, ap, ◌∙◌, subst, arith, append_assoc, append-nil}
use Rattle.std.specs.declared.cmp.Ordering.{Ordering}
use Rattle.std.specs.Bool.{IsTrue}
use Rattle.std.specs.Cmp.Lexicographic.{same_text}
use Rattle.std.specs.Option.{is_some}
use Rattle.std.specs.Prelude.{Option, Some, None}
use Rattle.fed_config.specs.Configuration.{Configuration, IsConfiguration, HasDomain, IsPlace, config_id_of}
use Rattle.std.specs.List.{AllByRecursion, Contains}
use Rattle.std.specs.List.Sorted.{IsStrictlySortedBy}
use Rattle.std.proofs.lemmas.List.{length-append}
use Rattle.std.proofs.lemmas.List.Elements.{Contains-push_cases}
use Rattle.std.proofs.lemmas.Map.Keys.{sorted_head, sorted_tail}
use Rattle.receipt_core.specs.declared.distrust.Distrust.{Distrust}
use Rattle.receipt_core.specs.Order.{receipt_total}
use Rattle.receipt_core.specs.Receipt.{Receipt, IsReceipt, receipt_cmp, distrust_cmp}
use Rattle.receipt_core.specs.Rising.{with_item, with_items}
use Rattle.receipt_core.specs.Sets.{AreSets, Always}
use Rattle.receipt_core.specs.Acceptance.{Meaning, IsMeaning, IsFitting}
use Rattle.closure_core.specs.contracts.error.TakeError.{the_type}
use denote.Enum.Bare.{sameb}
use lib.Pointwise.{pointwise}
use Rattle.closure_core.specs.Refusals.{RefusesFit, HasSameDigest, IsOfUnknownDomain, IsOfWrongEndpoint, IsBelowFloor, RefusesMerge, all_receipts, all_records}
use Rattle.closure_parts.specs.Merge.{AreCopies, HasNew, RefusesFitOfOne, first_cause_of}
use Rattle.closure_core.specs.declared.error.TakeError.{TakeError}
use Rattle.closure_core.specs.declared.error.TakeError.TheVariants.{UnknownDomain, WrongEndpoint, BelowFloor, Full, NoMemory, ConfigDiffers}
use Rattle.closure_parts.proofs.ConfigFacts.{place_has}
use Rattle.closure_core.proofs.ContainsFacts.{contains_first, contains_later, contains_none, contains_cases}
use Rattle.closure_core.proofs.FitFacts.{fits_right, wrong_known, low_known, low_right}
use Rattle.closure_core.proofs.RisingFacts.{not_again, with_items_keeps}
use Rattle.receipt_core.specs.Limits.{most_receipts}
use Rattle.closure_core.proofs.UnionFacts.{receipt_sets, record_sets, always}

-- ---- how far a loop has come

-- The rest is part of all, and what is of all but not of the rest has the property.
pub record IsPassed {X : Type 0} (P : X → Type 0) (all rest : List X) : Type 0 where
  pub within : (x : X) → Contains rest x → Contains all x
  pub passed : (x : X) → Contains all x → Contains rest x ⊎ P x

-- An item that has the property is passed.
pub IsPassed-next : {X : Type 0} (P : X → Type 0) (all rest later : List X) (x : X) → IsPassed P all rest → rest ≡ x ∷ later → P x → IsPassed P all later
IsPassed-next {X} P all rest later x passed e holds =
    let front : IsPassed P all (x ∷ later) = subst (IsPassed P all) e passed in
    record {
      within = λ y has. front.within y (contains_later x later y has);
      passed = λ y has. elim (front.passed y has) [
        | inl here ↦ elim (contains_cases x later y here) [ inl same ↦ inr (subst P same holds) | inr more ↦ inl more ]
        | inr done ↦ inr done
      ];
    }

-- If nothing is left, all items have the property.
pub IsPassed-end : {X : Type 0} (P : X → Type 0) (all rest : List X) → IsPassed P all rest → rest ≡ [] → (x : X) → Contains all x → P x
IsPassed-end {X} P all rest passed e x has =
    elim (passed.passed x has) [
      | inl more ↦ absurd (contains_none x (subst (λ (xs : List X). Contains xs x) e more))
      | inr done ↦ done
    ]

-- The next item is one of all.
pub IsPassed-has : {X : Type 0} (P : X → Type 0) (all rest later : List X) (x : X) → IsPassed P all rest → rest ≡ x ∷ later → Contains all x
IsPassed-has {X} P all rest later x passed e = passed.within x (subst (λ (xs : List X). Contains xs x) (sym e) (contains_first x later))

-- ---- how many are not held

-- exactly n of these items are not in the set
abbrev pub IsLacking : {X : Type 0} → List X → List X → ℕ → Type 0
IsLacking set [] n = n ≡ 0
IsLacking set (x ∷ xs) n = (Contains set x × IsLacking set xs n) ⊎ ((Contains set x → ⊥) × ((m : ℕ) × (n ≡ m + 1) × IsLacking set xs m))

-- Sets with the same ones among these items lack the same number of them.
IsLacking-other : {X : Type 0} (set more xs : List X) (n : ℕ)
    → ((x : X) → Contains xs x → Contains set x ↔ Contains more x) → IsLacking set xs n → IsLacking more xs n
IsLacking-other set more [] n same lacking = lacking
IsLacking-other set more (x ∷ xs) n same lacking =
    let here = same x (contains_first x xs) in
    elim lacking [
      | inl h ↦ inl (here.0 h.0, IsLacking-other set more xs n (λ y has. same y (contains_later x xs y has)) h.1)
      | inr h ↦ inr (λ has. h.0 (here.1 has), (h.1.0, h.1.1, IsLacking-other set more xs h.1.0 (λ y has. same y (contains_later x xs y has)) h.1.2))
    ]

-- Adding items makes a set larger by the number of those it lacked.
lacking_count : {X : Type 0} (P : X → Type 0) (cmp : X → X → Ordering) → AreSets P cmp → (xs set : List X) (n : ℕ)
    → AllByRecursion P xs → AllByRecursion P set → IsStrictlySortedBy cmp xs → IsStrictlySortedBy cmp set
    → IsLacking set xs n → length (with_items cmp xs set) ≡ length set + n
lacking_count P cmp sets [] set n all those rising sorted lacking = omega (arith, lacking)
lacking_count {X} P cmp sets (x ∷ xs) set n all those rising sorted lacking =
    elim lacking [
      | inl h ↦
          let same : with_item cmp x set ≡ set = sets.present x set sorted h.0 in
          ap (λ (s : List X). length (with_items cmp xs s)) same
          ∙ lacking_count P cmp sets xs set n all.1 those (sorted_tail cmp x xs rising) sorted h.1
      | inr h ↦
          let longer : length (with_item cmp x set) ≡ length set + 1 = sets.longer x set all.0 those h.0 in
          let more : AllByRecursion P (with_item cmp x set) = sets.keeps x set all.0 those in
          let other : (y : X) → Contains xs y → Contains set y ↔ Contains (with_item cmp x set) y =
          λ y has. (
            λ old. (sets.members x y set all.0 those).1 (inr old),
            λ new. elim ((sets.members x y set all.0 those).0 new) [
              | inl same ↦ absurd (not_again sets.total x xs (sorted_head cmp x xs rising) (subst (Contains xs) (sym same) has))
              | inr old ↦ old
            ],
          ) in
          let rest : length (with_items cmp xs (with_item cmp x set)) ≡ length (with_item cmp x set) + h.1.0 =
          lacking_count P cmp sets xs (with_item cmp x set) h.1.0 all.1 more (sorted_tail cmp x xs rising) (sets.rises x set sorted)
          (IsLacking-other set (with_item cmp x set) xs h.1.0 other h.1.2) in
          omega (arith, h.1.1)
    ]

-- What lacks of the rest, with those counted so far, is what lacks of all; and the numbers are few.
pub record IsCounted {X : Type 0} (set all rest : List X) (count limit : ℕ) : Type 0 where
  pub lacking : (m : ℕ) → IsLacking set rest m → IsLacking set all (count + m)
  pub few : count + length rest ≤ limit

-- Before the first item none is counted: the loop's beginning.
pub IsCounted-start : {X : Type 0} (set all : List X) (limit : ℕ) → length all ≤ limit → IsCounted set all all 0 limit
IsCounted-start set all limit few = record {
  lacking = λ m h. subst (IsLacking set all) (omega arith) h;
  few = omega (arith, few);
}

-- An item that is held is not counted.
pub IsCounted-held : {X : Type 0} (set all rest later : List X) (x : X) (count limit : ℕ)
    → IsCounted set all rest count limit → rest ≡ x ∷ later → Contains set x → IsCounted set all later count limit
IsCounted-held set all rest later x count limit counted e has =
    let few = counted.few in
    let size = ap length e in
    record {
      lacking = λ m h. counted.lacking m (subst (λ xs. IsLacking set xs m) (sym e) (inl (has, h)));
      few = omega arith;
    }

-- An item that is not held is counted.
pub IsCounted-new : {X : Type 0} (set all rest later : List X) (x : X) (count limit : ℕ)
    → IsCounted set all rest count limit → rest ≡ x ∷ later → (Contains set x → ⊥)
    → IsCounted set all later (count + 1) limit
IsCounted-new set all rest later x count limit counted e lacks =
    let few = counted.few in
    let size = ap length e in
    record {
      lacking = λ m h. subst (IsLacking set all) (omega arith)
          (counted.lacking (m + 1) (subst (λ xs. IsLacking set xs (m + 1)) (sym e) (inr (lacks, (m, refl, h)))));
      few = omega arith;
    }

-- If nothing is left, the count is how many are lacking.
IsCounted-end : {X : Type 0} (set all rest : List X) (count limit : ℕ) → IsCounted set all rest count limit → rest ≡ [] → IsLacking set all count
IsCounted-end set all rest count limit counted e =
    subst (IsLacking set all) (omega arith) (counted.lacking 0 (subst (λ xs. IsLacking set xs 0) (sym e) refl))

-- The count is by how many receipts both together are more.
pub counted_receipts : (m other : Meaning) (rest : List Receipt) (count limit : ℕ) → IsMeaning m → IsMeaning other
    → IsCounted m.held other.held rest count limit → rest ≡ [] → length (all_receipts m other) ≡ length m.held + count
counted_receipts m other rest count limit is was counted e =
    lacking_count IsReceipt receipt_cmp receipt_sets other.held m.held count was.receipts is.receipts was.rising
    is.rising (IsCounted-end m.held other.held rest count limit counted e)

-- The count is by how many records both together are more.
pub counted_records : (m other : Meaning) (rest : List Distrust) (count limit : ℕ) → IsMeaning m → IsMeaning other
    → IsCounted m.records other.records rest count limit → rest ≡ []
    → length (all_records m other) ≡ length m.records + count
counted_records m other rest count limit is was counted e =
    lacking_count Always distrust_cmp record_sets other.records m.records count (always other.records)
    (always m.records) was.records_rising is.records_rising
    (IsCounted-end m.records other.records rest count limit counted e)

-- ---- copies of what is not held

-- Adding two lists of items is adding one after the other.
with_items-append : {X : Type 0} (cmp : X → X → Ordering) (xs ys set : List X) → with_items cmp (xs ++ ys) set ≡ with_items cmp ys (with_items cmp xs set)
with_items-append cmp [] ys set = refl
with_items-append cmp (x ∷ xs) ys set = with_items-append cmp xs ys (with_item cmp x set)

-- Those so far are copied that are not held.
pub record IsCopied (held all rest copies : List Receipt) : Type 0 where
  pub joined : with_items receipt_cmp (copies ++ rest) held ≡ with_items receipt_cmp all held
  pub within : (r : Receipt) → Contains rest r → Contains all r
  pub each : (r : Receipt) → Contains copies r → Contains all r
  pub unheld : (r : Receipt) → Contains copies r → Contains held r → ⊥
  pub counted : IsCounted held all rest (length copies) most_receipts

-- Before the first receipt none is copied: the loop's beginning.
pub IsCopied-start : (held all : List Receipt) → length all ≤ most_receipts → IsCopied held all all []
IsCopied-start held all few = record {
  joined = refl;
  within = λ r has. has;
  each = λ r has. absurd (contains_none r has);
  unheld = λ r has. absurd (contains_none r has);
  counted = IsCounted-start held all most_receipts few;
}

-- A receipt that is held is not copied.
pub IsCopied-held : (held all rest later copies : List Receipt) (r : Receipt) → IsStrictlySortedBy receipt_cmp held
    → IsCopied held all rest copies → rest ≡ r ∷ later → Contains held r → IsCopied held all later copies
IsCopied-held held all rest later copies r rising copied e has =
    let kept : Contains (with_items receipt_cmp copies held) r = with_items_keeps receipt_total copies held r has in
    let same : with_item receipt_cmp r (with_items receipt_cmp copies held) ≡ with_items receipt_cmp copies held =
    receipt_sets.present r (with_items receipt_cmp copies held) (receipt_sets.all_rise copies held rising) kept in
    record {
      joined = with_items-append receipt_cmp copies later held ∙ sym (ap (with_items receipt_cmp later) same)
          ∙ sym (with_items-append receipt_cmp copies (r ∷ later) held)
          ∙ sym (ap (λ (xs : List Receipt). with_items receipt_cmp (copies ++ xs) held) e) ∙ copied.joined;
      within = λ s more. copied.within s (subst (λ (xs : List Receipt). Contains xs s) (sym e) (contains_later r later s more));
      each = copied.each;
      unheld = copied.unheld;
      counted = IsCounted-held held all rest later r (length copies) most_receipts copied.counted e has;
    }

-- A receipt that is not held is copied.
pub IsCopied-new : (held all rest later copies new : List Receipt) (r copy : Receipt) → IsCopied held all rest copies
    → rest ≡ r ∷ later → (Contains held r → ⊥) → new ≡ copies ++ copy ∷ [] → copy ≡ r → IsCopied held all later new
IsCopied-new held all rest later copies new r copy copied e lacks push same =
    let pushed : new ≡ copies ++ r ∷ [] = push ∙ ap (λ (s : Receipt). copies ++ s ∷ []) same in
    let here : Contains all r = copied.within r (subst (λ (xs : List Receipt). Contains xs r) (sym e) (contains_first r later)) in
    let size : length new ≡ length copies + 1 = ap length pushed ∙ length-append copies (r ∷ []) in
    record {
      joined = ap (λ (xs : List Receipt). with_items receipt_cmp (xs ++ later) held) pushed
          ∙ ap (λ (xs : List Receipt). with_items receipt_cmp xs held) (append_assoc copies (r ∷ []) later)
          ∙ sym (ap (λ (xs : List Receipt). with_items receipt_cmp (copies ++ xs) held) e) ∙ copied.joined;
      within = λ s more. copied.within s (subst (λ (xs : List Receipt). Contains xs s) (sym e) (contains_later r later s more));
      each = λ s has. elim (Contains-push_cases copies r s (subst (λ (xs : List Receipt). Contains xs s) pushed has))
          [ inl old ↦ copied.each s old | inr same ↦ subst (Contains all) same here ];
      unheld = λ s has. elim (Contains-push_cases copies r s (subst (λ (xs : List Receipt). Contains xs s) pushed has))
          [ inl old ↦ copied.unheld s old | inr same ↦ λ holds. lacks (subst (Contains held) (sym same) holds) ];
      counted = subst (λ n. IsCounted held all later n most_receipts) (sym size)
          (IsCounted-new held all rest later r (length copies) most_receipts copied.counted e lacks);
    }

-- If nothing is left, all are copied that are not held.
pub IsCopied-end : (m other : Meaning) (rest copies : List Receipt) → IsMeaning m → IsMeaning other
    → IsCopied m.held other.held rest copies → rest ≡ [] → AreCopies m other copies
IsCopied-end m other rest copies is was copied e = record {
  all = ap (λ (xs : List Receipt). with_items receipt_cmp xs m.held) (sym (append-nil copies))
      ∙ sym (ap (λ (xs : List Receipt). with_items receipt_cmp (copies ++ xs) m.held) e) ∙ copied.joined;
  each = copied.each;
  unheld = copied.unheld;
  count = counted_receipts m other rest (length copies) most_receipts is was copied.counted e;
}

-- The next receipt is one of all.
pub IsCopied-has : (held all rest later copies : List Receipt) (r : Receipt) → IsCopied held all rest copies → rest ≡ r ∷ later → Contains all r
IsCopied-has held all rest later copies r copied e = copied.within r (subst (λ (xs : List Receipt). Contains xs r) (sym e) (contains_first r later))

-- A list that is not empty contains something.
has_first : {X : Type 0} (xs : List X) → 0 < length xs → (x : X) × Contains xs x
has_first [] some = absurd (omega arith)
has_first (x ∷ xs) some = (x, contains_first x xs)

-- If a receipt was copied, the other has one that is not held.
pub copies_new : (m other : Meaning) (copies : List Receipt) → AreCopies m other copies → 0 < length copies → HasNew m other
copies_new m other copies are some =
    let first = has_first copies some in
    (first.0, are.each first.0 first.1, are.unheld first.0 first.1)

-- ---- what a test says

-- What a test denies does not hold.
pub lacks_of : (b : Bool) (P : Type 0) → b ≡ false → (IsTrue b ↔ P) → P → ⊥
lacks_of b P e iff p = let t = iff.1 p in absurd (cc)

-- A domain that has a place is one of the configuration.
pub known_of : (c : Configuration) (domain : List ℕ) (place : Option ℕ) → IsPlace c domain place → is_some place ≡ true → HasDomain c domain
known_of c domain None at e = absurd (cc)
known_of c domain (Some n) at e = place_has c domain n at

-- ---- why one of several receipts does not fit

-- The receipts before the rest all fit, or this is the first cause that holds for one of them, and it is not an unknown domain.
abbrev pub IsCause : Configuration → List Receipt → List Receipt → Option TakeError → Type 0
IsCause c all rest None = IsPassed (IsFitting c) all rest
IsCause c all rest (Some WrongEndpoint) = (r : Receipt) × Contains all r × IsOfWrongEndpoint c r
IsCause c all rest (Some BelowFloor) = IsPassed (λ r. IsOfWrongEndpoint c r → ⊥) all rest × ((r : Receipt) × Contains all r × IsBelowFloor c r)
IsCause c all rest (Some why) = ⊥

-- If a property holds of each item that is passed, so does one that follows from it.
passed_as : {X : Type 0} (P Q : X → Type 0) (all rest : List X) → ((x : X) → P x → Q x) → IsPassed P all rest → IsPassed Q all rest
passed_as P Q all rest turn passed = record {
  within = passed.within;
  passed = λ x has. elim (passed.passed x has) [ inl later ↦ inl later | inr holds ↦ inr (turn x holds) ];
}

-- A receipt that fits changes nothing of the cause that was found before it.
pub cause_kept : (c : Configuration) (all rest later : List Receipt) (r : Receipt) (cause : Option TakeError) → IsConfiguration c
    → IsCause c all rest cause → rest ≡ r ∷ later → IsFitting c r → IsCause c all later cause
cause_kept c all rest later r None is passed e fits = IsPassed-next (IsFitting c) all rest later r passed e fits
cause_kept c all rest later r (Some WrongEndpoint) is wrong e fits = wrong
cause_kept c all rest later r (Some BelowFloor) is low e fits =
    (IsPassed-next (λ s. IsOfWrongEndpoint c s → ⊥) all rest later r low.0 e (fits_right c r is fits), low.1)
cause_kept c all rest later r (Some UnknownDomain) is none e fits = none
cause_kept c all rest later r (Some Full) is none e fits = none
cause_kept c all rest later r (Some NoMemory) is none e fits = none
cause_kept c all rest later r (Some ConfigDiffers) is none e fits = none

-- After a receipt below a floor the floor is the cause, if no endpoint was wrong.
cause_low : (c : Configuration) (all rest later : List Receipt) (r : Receipt) (cause : Option TakeError) → IsConfiguration c
    → IsCause c all rest cause → rest ≡ r ∷ later → Contains all r → IsBelowFloor c r → IsCause c all later (Some (first_cause_of cause BelowFloor))
cause_low c all rest later r None is passed e has low = (
  IsPassed-next (λ s. IsOfWrongEndpoint c s → ⊥) all rest later r
      (passed_as (IsFitting c) (λ s. IsOfWrongEndpoint c s → ⊥) all rest (λ s fits. fits_right c s is fits) passed) e (low_right c r is low),
  (r, has, low),
)
cause_low c all rest later r (Some WrongEndpoint) is wrong e has low = wrong
cause_low c all rest later r (Some BelowFloor) is before e has low =
    (IsPassed-next (λ s. IsOfWrongEndpoint c s → ⊥) all rest later r before.0 e (low_right c r is low), (r, has, low))
cause_low c all rest later r (Some UnknownDomain) is none e has low = absurd none
cause_low c all rest later r (Some Full) is none e has low = absurd none
cause_low c all rest later r (Some NoMemory) is none e has low = absurd none
cause_low c all rest later r (Some ConfigDiffers) is none e has low = absurd none

-- After a receipt with a wrong endpoint the endpoint is the cause.
cause_wrong : (c : Configuration) (all later : List Receipt) (r : Receipt) (cause : Option TakeError)
    → Contains all r → IsOfWrongEndpoint c r → IsCause c all later (Some (first_cause_of cause WrongEndpoint))
cause_wrong c all later r None has wrong = (r, has, wrong)
cause_wrong c all later r (Some WrongEndpoint) has wrong = (r, has, wrong)
cause_wrong c all later r (Some BelowFloor) has wrong = (r, has, wrong)
cause_wrong c all later r (Some UnknownDomain) has wrong = (r, has, wrong)
cause_wrong c all later r (Some Full) has wrong = (r, has, wrong)
cause_wrong c all later r (Some NoMemory) has wrong = (r, has, wrong)
cause_wrong c all later r (Some ConfigDiffers) has wrong = (r, has, wrong)

-- After a receipt that does not fit, though its domain is known, the first cause of the two is the cause.
pub cause_next : (c : Configuration) (all rest later : List Receipt) (r : Receipt) (cause : Option TakeError) (why : TakeError) → IsConfiguration c
    → IsCause c all rest cause → rest ≡ r ∷ later → Contains all r → RefusesFit c r why → false ≡ sameb the_type why UnknownDomain
    → IsCause c all later (Some (first_cause_of cause why))
cause_next c all rest later r cause UnknownDomain is so e has h other = absurd (cc)
cause_next c all rest later r cause WrongEndpoint is so e has h other = cause_wrong c all later r cause has h
cause_next c all rest later r cause BelowFloor is so e has h other = cause_low c all rest later r cause is so e has h
cause_next c all rest later r cause Full is so e has h other = absurd h
cause_next c all rest later r cause NoMemory is so e has h other = absurd h
cause_next c all rest later r cause ConfigDiffers is so e has h other = absurd h

-- A receipt that does not fit, and not for its domain, is of a known domain.
pub misfit_known : (c : Configuration) (r : Receipt) (why : TakeError) → RefusesFit c r why → false ≡ sameb the_type why UnknownDomain
    → IsOfUnknownDomain c r → ⊥
misfit_known c r UnknownDomain h other = absurd (cc)
misfit_known c r WrongEndpoint h other = wrong_known c r h
misfit_known c r BelowFloor h other = low_known c r h
misfit_known c r Full h other = absurd h
misfit_known c r NoMemory h other = absurd h
misfit_known c r ConfigDiffers h other = absurd h

-- When no receipt is left, the cause is the first that holds for one of them.
pub cause_refuses : (c : Configuration) (all rest : List Receipt) (why : TakeError) → IsPassed (λ r. IsOfUnknownDomain c r → ⊥) all rest
    → IsCause c all rest (Some why) → rest ≡ [] → RefusesFitOfOne c all why
cause_refuses c all rest WrongEndpoint known wrong e = (IsPassed-end (λ r. IsOfUnknownDomain c r → ⊥) all rest known e, wrong)
cause_refuses c all rest BelowFloor known low e = (
  IsPassed-end (λ r. IsOfUnknownDomain c r → ⊥) all rest known e,
  IsPassed-end (λ r. IsOfWrongEndpoint c r → ⊥) all rest low.0 e,
  low.1,
)
cause_refuses c all rest UnknownDomain known none e = absurd none
cause_refuses c all rest Full known none e = absurd none
cause_refuses c all rest NoMemory known none e = absurd none
cause_refuses c all rest ConfigDiffers known none e = absurd none

-- ---- why a merge is refused

-- A record of an unknown domain refuses the merge.
pub refuses_record : (m other : Meaning) (c : Configuration) (xs : List Distrust) → c ≡ m.config → xs ≡ other.records
    → HasSameDigest m other → ((x : Distrust) × Contains xs x × (HasDomain c x.domain → ⊥))
    → RefusesMerge m other UnknownDomain
refuses_record m other c xs own its alike found = (
  alike,
  inr (
    found.0,
    subst (λ (ys : List Distrust). Contains ys found.0) its found.1,
    λ has. found.2 (subst (λ (k : Configuration). HasDomain k found.0.domain) (sym own) has),
  ),
)

-- What was found of the records that were read holds of those of the other.
pub knows_records : (m other : Meaning) (c : Configuration) (xs : List Distrust) → c ≡ m.config → xs ≡ other.records
    → ((x : Distrust) → Contains xs x → HasDomain c x.domain) → (x : Distrust) → Contains other.records x
    → HasDomain m.config x.domain
knows_records m other c xs own its all x has =
    subst (λ (k : Configuration). HasDomain k x.domain) own (all x (subst (λ (ys : List Distrust). Contains ys x) (sym its) has))

-- What was found of the receipts that were read holds of those of the other.
pub fits_receipts : (m other : Meaning) (c : Configuration) (rs : List Receipt) → c ≡ m.config → rs ≡ other.held
    → ((r : Receipt) → Contains rs r → IsFitting c r) → (r : Receipt) → Contains other.held r → IsFitting m.config r
fits_receipts m other c rs own its all r has =
    subst (λ (k : Configuration). IsFitting k r) own (all r (subst (λ (ys : List Receipt). Contains ys r) (sym its) has))

-- A receipt that does not fit refuses the merge, for the cause that comes first.
refuses_at : (m other : Meaning) → HasSameDigest m other
    → ((x : Distrust) → Contains other.records x → HasDomain m.config x.domain) → (why : TakeError)
    → RefusesFitOfOne m.config other.held why → RefusesMerge m other why
refuses_at m other alike known UnknownDomain h = (alike, inl h)
refuses_at m other alike known WrongEndpoint h =
    (alike, λ unknown. elim unknown [ inl r ↦ h.0 r.0 r.1 r.2 | inr x ↦ x.2 (known x.0 x.1) ], h.1)
refuses_at m other alike known BelowFloor h = (
  alike,
  λ unknown. elim unknown [ inl r ↦ h.0 r.0 r.1 r.2 | inr x ↦ x.2 (known x.0 x.1) ],
  λ wrong. h.1 wrong.0 wrong.1 wrong.2,
  h.2,
)
refuses_at m other alike known Full h = absurd h
refuses_at m other alike known NoMemory h = absurd h
refuses_at m other alike known ConfigDiffers h = absurd h

-- A receipt that does not fit, among those that were read, refuses the merge.
pub refuses_receipt : (m other : Meaning) (c : Configuration) (rs : List Receipt) → c ≡ m.config → rs ≡ other.held
    → HasSameDigest m other → ((x : Distrust) → Contains other.records x → HasDomain m.config x.domain) → (why : TakeError)
    → RefusesFitOfOne c rs why → RefusesMerge m other why
refuses_receipt m other c rs own its alike known why h =
    refuses_at m other alike known why
    (subst (λ (k : Configuration). RefusesFitOfOne k other.held why) own
    (subst (λ (ys : List Receipt). RefusesFitOfOne c ys why) its h))

-- A negation that is false has a true inside.
turned_not : (b : Bool) → false ≡ not b → true ≡ b
turned_not true e = refl
turned_not false e = absurd (cc)

-- Digests that the comparison finds equal are equal.
pub alike_of : (m other : Meaning) (c d : Configuration) (a b : List ℕ) → c ≡ m.config → d ≡ other.config
    → a ≡ config_id_of c → b ≡ config_id_of d → false ≡ not (pointwise nat_eq a b) → HasSameDigest m other
alike_of m other c d a b own its first second same =
    sym (ap config_id_of own) ∙ sym first ∙ same_text a b (turned_not (pointwise nat_eq a b) same) ∙ second ∙ ap config_id_of its
