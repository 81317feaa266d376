-- All that a closure holds, offered item by item.
use Rattle.std.proofs.Common.{◌≡◌, ℕ, ◌+◌, ◌≤◌, inl, inr, List, [], ◌∷◌, ◌++◌, length, map, refl, sym, ap, ◌∙◌, subst, arith}
use Rattle.std.proofs.Common.{append_assoc}
use Rattle.std.specs.Prelude.{◌↔◌, Contains}
use Rattle.std.specs.List.{AllByRecursion}
use Rattle.std.proofs.lemmas.List.{map-append}
use Rattle.std.proofs.lemmas.List.Sums.{fold-append}
use Rattle.std.proofs.lemmas.List.Elements.{Contains-append_left, Contains-append_right, Contains-append_cases}
use Rattle.receipt_core.specs.Receipt.{IsReceipt, IsDistrust, distrust_line, line}
use Rattle.receipt_core.specs.Acceptance.{Meaning, IsMeaning}
use Rattle.replica_core.specs.declared.entry.Entry.{Entry}
use Rattle.replica_core.specs.declared.entry.Entry.TheVariants.{Record, Receipt as AReceipt}
use Rattle.replica_core.proofs.ContainsFacts.{each-from, map-from, map-to}
use Rattle.replica_core.proofs.RisingListFacts.{all_back}
use Rattle.replica_texts.specs.Entries.{entry_line}
use Rattle.replica_texts.specs.SoleLines.{IsWellFormed}
use Rattle.replica_texts.specs.Snapshots.{held_lines}
use Rattle.side_by_side.specs.declared.fate.Fate.{Fate}
use Rattle.side_by_side.specs.declared.offer_counts.Offered.{Offered}
use Rattle.side_by_side.specs.Offering.{HasOffered, HasOfferedPart, IsEntryHeld, Kept, OffersEntry, OffersInTurn, OffersLine}
use Rattle.side_by_side.specs.Offering.{OffersLines, counted_fate, counted_all, none_offered}
use Rattle.side_by_side.specs.Promise.{LinesSay}
use Rattle.side_by_side.specs.Inside.Steps.{offered_count}
use Rattle.side_by_side.proofs.EntryFacts.{one_entry}
use Rattle.side_by_side.proofs.StepFacts.{counted_one, said_line, turn_more}

-- The line of a receipt or a record of its form, offered.
pub own_line : (old : Kept) (entry : Entry) (new : Kept) (fate : Fate) → IsWellFormed entry → OffersEntry old entry new fate
    → OffersLine old (entry_line entry) new fate
own_line old entry new fate form h = said_line old (entry_line entry) entry new fate (record { is = form; spelt = refl }) h

-- ---- item by item

-- The items so far were offered, and there is a number for each that is left.
pub record OffersSome {A : Type 0} (text : A → List ℕ) (old : Kept) (all rest : List A) (now : Kept) (before offered : Offered) : Type 0 where
  pub done : List A
  pub fates : List Fate
  pub split : all ≡ done ++ rest
  pub each : OffersInTurn old (map text done) now fates
  pub counts : offered ≡ counted_all fates before
  pub number : offered_count offered + length rest ≡ offered_count before + length all

pub item_none : {A : Type 0} (text : A → List ℕ) (old : Kept) (all : List A) (before : Offered) → OffersSome text old all all old before before
item_none text old all before = record { done = []; fates = []; split = refl; each = refl; counts = refl; number = refl }

-- What holds of all items holds of the next one.
pub item_form : {A : Type 0} (P : A → Type 0) (text : A → List ℕ) (old : Kept) (all rest later : List A) (x : A) (now : Kept) (before offered : Offered)
    → OffersSome text old all rest now before offered → rest ≡ x ∷ later → AllByRecursion P all → P x
item_form P text old all rest later x now before offered so is forms =
    (all_back P so.done (x ∷ later) (subst (AllByRecursion P) (so.split ∙ ap (λ xs. so.done ++ xs) is) forms)).0

-- There is a number for the next item.
pub item_place : {A : Type 0} (text : A → List ℕ) (old : Kept) (all rest later : List A) (x : A) (now : Kept) (before offered : Offered)
    → OffersSome text old all rest now before offered → rest ≡ x ∷ later → offered_count offered + 1 ≤ offered_count before + length all
item_place text old all rest later x now before offered so is =
    let size = ap length is in
    let number = so.number in
    omega (arith, size, number)

-- One item more.
pub item_more : {A : Type 0} (text : A → List ℕ) (old : Kept) (all rest later : List A) (x : A) (now new : Kept) (before offered more : Offered) (fate : Fate)
    → OffersSome text old all rest now before offered → rest ≡ x ∷ later → OffersLine now (text x) new fate → more ≡ counted_fate fate offered
    → OffersSome text old all later new before more
item_more {A} text old all rest later x now new before offered more fate so is line count =
    let texts : map text (so.done ++ x ∷ []) ≡ map text so.done ++ text x ∷ [] = map-append text so.done (x ∷ []) in
    let size = ap length is in
    let number = so.number in
    let one : offered_count more ≡ offered_count offered + 1 = ap offered_count count ∙ counted_one fate offered in
    record {
      done = so.done ++ x ∷ [];
      fates = so.fates ++ fate ∷ [];
      split = so.split ∙ ap (λ (xs : List A). so.done ++ xs) is ∙ sym (append_assoc so.done (x ∷ []) later);
      each = subst (λ (ts : List (List ℕ)). OffersInTurn old ts new (so.fates ++ fate ∷ [])) (sym texts)
          (turn_more old (map text so.done) now so.fates (text x) new fate so.each line);
      counts = count ∙ ap (counted_fate fate) so.counts ∙ sym (fold-append (λ (o : Offered) (f : Fate). counted_fate f o) before so.fates (fate ∷ []));
      number = omega (arith, size, number, one);
    }

-- How many there were.
pub item_count : {A : Type 0} (text : A → List ℕ) (old : Kept) (all rest : List A) (now : Kept) (before offered : Offered)
    → OffersSome text old all rest now before offered → offered_count offered ≤ offered_count before + length all
item_count text old all rest now before offered so = let number = so.number in omega (arith, number)

-- ---- some lines, and then others

turn_then : (old : Kept) (texts : List (List ℕ)) (now : Kept) (fates : List Fate) (others : List (List ℕ)) (new : Kept) (more : List Fate)
    → OffersInTurn old texts now fates → OffersInTurn now others new more → OffersInTurn old (texts ++ others) new (fates ++ more)
turn_then old [] now [] others new more h k = subst (λ (o : Kept). OffersInTurn o others new more) h k
turn_then old [] now (f ∷ fates) others new more h k = absurd h
turn_then old (t ∷ texts) now [] others new more h k = absurd h
turn_then old (t ∷ texts) now (f ∷ fates) others new more h k = (h.0, h.1, turn_then h.0 texts now fates others new more h.2 k)

pub both_offered : (old : Kept) (texts : List (List ℕ)) (now : Kept) (others : List (List ℕ)) (new : Kept) (offered all : Offered)
    → HasOffered old texts now offered → OffersLines now others new offered all → HasOffered old (texts ++ others) new all
both_offered old texts now others new offered all h k = record {
  fates = h.fates ++ k.fates;
  each = turn_then old texts now h.fates others new k.fates h.each k.each;
  counts = k.counts ∙ ap (counted_all k.fates) h.counts
      ∙ sym (fold-append (λ (o : Offered) (f : Fate). counted_fate f o) none_offered h.fates k.fates);
}

pub first_part : (old : Kept) (texts others : List (List ℕ)) (new : Kept) → HasOfferedPart old texts new → HasOfferedPart old (texts ++ others) new
first_part old texts others new h = record {
  done = h.done;
  next = h.next;
  later = h.later ++ others;
  fates = h.fates;
  lines = ap (λ (ts : List (List ℕ)). ts ++ others) h.lines ∙ append_assoc h.done (h.next ∷ h.later) others;
  each = h.each;
}

pub then_part : (old : Kept) (texts : List (List ℕ)) (now : Kept) (others : List (List ℕ)) (new : Kept) (offered : Offered)
    → HasOffered old texts now offered → HasOfferedPart now others new → HasOfferedPart old (texts ++ others) new
then_part old texts now others new offered h k = record {
  done = texts ++ k.done;
  next = k.next;
  later = k.later;
  fates = h.fates ++ k.fates;
  lines = ap (λ (ts : List (List ℕ)). texts ++ ts) k.lines ∙ sym (append_assoc texts k.done (k.next ∷ k.later));
  each = turn_then old texts now h.fates k.done new k.fates h.each k.each;
}

-- ---- the lines of what is held

says_records : (m : Meaning) (e : Entry) → IsMeaning m → IsWellFormed e → Contains (map distrust_line m.records) (entry_line e) → IsEntryHeld m e
says_records m e is form has =
    let from = map-from distrust_line m.records (entry_line e) has in
    subst (IsEntryHeld m) (one_entry (Record from.0) e (each-from IsDistrust m.records is.distrusts from.0 from.1) form from.2) from.1

says_receipts : (m : Meaning) (e : Entry) → IsMeaning m → IsWellFormed e → Contains (map line m.held) (entry_line e) → IsEntryHeld m e
says_receipts m e is form has =
    let from = map-from line m.held (entry_line e) has in
    subst (IsEntryHeld m) (one_entry (AReceipt from.0) e (each-from IsReceipt m.held is.receipts from.0 from.1) form from.2) from.1

holds_said : (m : Meaning) (e : Entry) → IsMeaning m → IsEntryHeld m e → LinesSay (held_lines m) e
holds_said m (Record x) is has = record {
  form = each-from IsDistrust m.records is.distrusts x has;
  line = Contains-append_left (map distrust_line m.records) (map line m.held) (distrust_line x) (map-to distrust_line m.records x has);
}
holds_said m (AReceipt r) is has = record {
  form = each-from IsReceipt m.held is.receipts r has;
  line = Contains-append_right (map distrust_line m.records) (map line m.held) (line r) (map-to line m.held r has);
}

-- The law `held`.
pub held_law : (m : Meaning) → IsMeaning m → (e : Entry) → LinesSay (held_lines m) e ↔ IsEntryHeld m e
held_law m is e = (
  λ says. elim (Contains-append_cases (map distrust_line m.records) (map line m.held) (entry_line e) says.line) [
    | inl record_has ↦ says_records m e is says.form record_has
    | inr receipt_has ↦ says_receipts m e is says.form receipt_has
  ],
  holds_said m e is,
)
