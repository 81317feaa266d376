-- Carrying over, item by item.
use Rattle.std.proofs.Common.{◌≡◌, ℕ, ◌+◌, ◌<◌, ◌≤◌, List, [], ◌∷◌, ◌++◌, length, ◌⊎◌, inl}
use Rattle.std.proofs.Common.{inr, Option, take, codes, refl, sym, ap, ◌∙◌, subst, arith, append_assoc, append-nil}
use Rattle.std.specs.Prelude.{Contains, ◌↔◌, Result, IfOk}
use Rattle.std.specs.List.{AllByRecursion, concat}
use Rattle.std.specs.Io.KnownBytes.{Appends}
use Rattle.std.proofs.KnownBytes.{Appends-nil, Appends-trans}
use Rattle.std.proofs.Math.Seq.{take-length, take-append-add}
use Rattle.std.proofs.lemmas.List.{length_push, length-append}
use Rattle.std.proofs.lemmas.List.Elements.{Contains-append_left, Contains-push, Contains-push_cases}
use Rattle.std.proofs.lemmas.List.Folds.{concat-append}
use Rattle.std.proofs.lemmas.Result.{IfOk-weaker}
use Rattle.byte_lines.specs.Device.{AppendsBeginning}
use Rattle.byte_lines.specs.declared.error.DeviceError.{DeviceError}
use Rattle.fed_config.specs.Configuration.{Configuration, IsConfiguration, HasDomain}
use Rattle.receipt_core.specs.Acceptance.{IsFitting, Meaning, IsMeaning}
use Rattle.receipt_core.specs.Receipt.{Receipt, IsReceipt, receipt_cmp, with_receipt, distrust_cmp, with_distrust}
use Rattle.receipt_core.specs.Sets.{AreSets, Always}
use Rattle.receipt_core.specs.declared.distrust.Distrust.{Distrust}
use Rattle.receipt_core.proofs.RisingFacts.{Has-from_contains, each_has}
use Rattle.closure_core.specs.Changes.{HeldAndRoom, TakesOk, Distrusts}
use Rattle.closure_core.specs.Refusals.{IsOfUnknownDomain, IsOfWrongEndpoint, IsBelowFloor}
use Rattle.closure_core.specs.declared.outcome.Taken.{Taken}
use Rattle.closure_core.specs.declared.outcome.Taken.TheVariants.{New as TakenNew, Already as TakenAlready}
use Rattle.closure_core.specs.declared.outcome.Distrusted.{Distrusted}
use Rattle.closure_core.specs.declared.outcome.Distrusted.TheVariants.{New as DistrustedNew, Already as DistrustedAlready}
use Rattle.closure_core.proofs.FitFacts.{fits_known, fits_right, fits_above}
use Rattle.closure_core.proofs.RisingFacts.{with_item_longer}
use Rattle.migration.specs.Carry.{AreLeftOut, ReportsReceipt, ReportsRecord, left_receipt, chosen_receipts}
use Rattle.migration.specs.Carry.{AreLinesOf, CarriesOver, StopsCarrying, carry_run}
use Rattle.migration.specs.declared.carrying.Choice.{Choice}
use Rattle.migration.specs.Inside.Carrying.{SinkRun, sink_run, SortsItem, StopsAtItem, HasSorted, StopsSorting}

-- ---- one item

-- an item that is kept already adds none
members_same : {A : Type 0} (x : A) (old : List A) → Contains old x → (a : A) → (Contains old a ↔ ((x ≡ a) ⊎ Contains old a))
members_same x old has a = (λ h. inr h, λ h. elim h [ inl e ↦ subst (Contains old) e has | inr k ↦ k ])

-- no condition holds of every item
always : {A : Type 0} (xs : List A) → AllByRecursion Always xs
always [] = tt
always (x ∷ xs) = (tt, always xs)

-- a record that was taken goes along
pub record_goes : AreSets Always distrust_cmp → (old new : Meaning) (x : Distrust) (d : Distrusted) (held : Option (List ℕ))
    → IsMeaning old → Distrusts old x new d
    → SortsItem (λ y. HasDomain old.config y.domain) (ReportsRecord old.config) x old.records new.records (sink_run held held) 0
record_goes sets old new x (DistrustedNew lost) held valid took =
    let now : new.records ≡ with_distrust x old.records = ap (λ (m : Meaning). m.records) took.meaning in
    let size = ap length now in
    let longer = with_item_longer sets.total x old.records in
    inl (
      record {
        fits = took.domain;
        members = λ a. subst (λ (xs : List Distrust). Contains xs a ↔ ((x ≡ a) ⊎ Contains old.records a)) (sym now)
            (sets.members x a old.records tt (always old.records));
        few = omega (arith, longer, size);
        unwritten = refl;
      },
      refl,
    )
record_goes sets old new x DistrustedAlready held valid took =
    let now : new.records ≡ old.records = ap (λ (m : Meaning). m.records) took.meaning in
    let size = ap length now in
    inl (
      record {
        fits = each_has (λ (y : Distrust). HasDomain old.config y.domain) old.records x valid.domains (Has-from_contains old.records x took.held);
        members = λ a. subst (λ (xs : List Distrust). Contains xs a ↔ ((x ≡ a) ⊎ Contains old.records a)) (sym now) (members_same x old.records took.held a);
        few = omega (arith, size);
        unwritten = refl;
      },
      refl,
    )

-- a receipt that was taken goes along
pub receipt_goes : AreSets IsReceipt receipt_cmp → (old new : HeldAndRoom) (r : Receipt) (t : Taken) (held : Option (List ℕ))
    → IsMeaning old.meaning → IsReceipt r → TakesOk old r new t
    → SortsItem (IsFitting old.meaning.config) (ReportsReceipt old.meaning.config) r old.meaning.held new.meaning.held (sink_run held held) 0
receipt_goes sets old new r (TakenNew n) held valid is took =
    let now : new.meaning.held ≡ with_receipt r old.meaning.held = ap (λ (m : Meaning). m.held) took.meaning in
    let size = ap length now in
    let longer = with_item_longer sets.total r old.meaning.held in
    inl (
      record {
        fits = took.fits;
        members = λ a. subst (λ (xs : List Receipt). Contains xs a ↔ ((r ≡ a) ⊎ Contains old.meaning.held a)) (sym now)
            (sets.members r a old.meaning.held is valid.receipts);
        few = omega (arith, longer, size);
        unwritten = refl;
      },
      refl,
    )
receipt_goes sets old new r TakenAlready held valid is took =
    let now : new.meaning.held ≡ old.meaning.held = ap (λ (s : HeldAndRoom). s.meaning.held) took.same in
    let size = ap length now in
    inl (
      record {
        fits = each_has (IsFitting old.meaning.config) old.meaning.held r valid.fitting (Has-from_contains old.meaning.held r took.held);
        members = λ a. subst (λ (xs : List Receipt). Contains xs a ↔ ((r ≡ a) ⊎ Contains old.meaning.held a)) (sym now)
            (members_same r old.meaning.held took.held a);
        few = omega (arith, size);
        unwritten = refl;
      },
      refl,
    )

-- the same for a receipt of an unknown domain
pub unknown_stays : (old new : Meaning) (r : Receipt) (before after : Option (List ℕ)) (result : Result ℕ DeviceError)
    → IsOfUnknownDomain old.config r → new ≡ old → IfOk result (λ n. (n ≡ 1) × Appends before after (left_receipt r (codes ": unknown domain\n")))
    → IfOk result (SortsItem (IsFitting old.config) (ReportsReceipt old.config) r old.held new.held (sink_run before after))
unknown_stays old new r before after result unknown same wrote =
    IfOk-weaker result _ _ (λ n w. inr (
      record {
        stays = λ fits. fits_known old.config r fits unknown;
        same = ap (λ (m : Meaning). m.held) same;
        line = left_receipt r (codes ": unknown domain\n");
        reported = inl (unknown, refl);
        written = w.1;
      },
      w.0,
    )) wrote

-- the same for a receipt of another endpoint
pub wrong_stays : (old new : Meaning) (r : Receipt) (before after : Option (List ℕ)) (result : Result ℕ DeviceError)
    → IsConfiguration old.config → IsOfWrongEndpoint old.config r → new ≡ old
    → IfOk result (λ n. (n ≡ 1) × Appends before after (left_receipt r (codes ": wrong endpoint\n")))
    → IfOk result (SortsItem (IsFitting old.config) (ReportsReceipt old.config) r old.held new.held (sink_run before after))
wrong_stays old new r before after result form wrong same wrote =
    IfOk-weaker result _ _ (λ n w. inr (
      record {
        stays = λ fits. fits_right old.config r form fits wrong;
        same = ap (λ (m : Meaning). m.held) same;
        line = left_receipt r (codes ": wrong endpoint\n");
        reported = inr (inl (wrong, refl));
        written = w.1;
      },
      w.0,
    )) wrote

-- the same for a receipt that is below a floor
pub low_stays : (old new : Meaning) (r : Receipt) (before after : Option (List ℕ)) (result : Result ℕ DeviceError)
    → IsBelowFloor old.config r → new ≡ old → IfOk result (λ n. (n ≡ 1) × Appends before after (left_receipt r (codes ": below floor\n")))
    → IfOk result (SortsItem (IsFitting old.config) (ReportsReceipt old.config) r old.held new.held (sink_run before after))
low_stays old new r before after result low same wrote =
    IfOk-weaker result _ _ (λ n w. inr (
      record {
        stays = λ fits. fits_above old.config r fits low;
        same = ap (λ (m : Meaning). m.held) same;
        line = left_receipt r (codes ": below floor\n");
        reported = inr (inr (low, refl));
        written = w.1;
      },
      w.0,
    )) wrote

-- an error while the line of such a receipt is written leaves a beginning of it, or nothing
pub unknown_stops : (c : Configuration) (r : Receipt) (before after : Option (List ℕ)) → IsOfUnknownDomain c r
    → (after ≡ before) ⊎ AppendsBeginning before after (left_receipt r (codes ": unknown domain\n"))
    → StopsAtItem (ReportsReceipt c) r (sink_run before after)
unknown_stops c r before after unknown begun =
    elim begun [ inl same ↦ inl same | inr some ↦ inr (left_receipt r (codes ": unknown domain\n"), inl (unknown, refl), some) ]

-- the same if the endpoint is another
pub wrong_stops : (c : Configuration) (r : Receipt) (before after : Option (List ℕ)) → IsOfWrongEndpoint c r
    → (after ≡ before) ⊎ AppendsBeginning before after (left_receipt r (codes ": wrong endpoint\n"))
    → StopsAtItem (ReportsReceipt c) r (sink_run before after)
wrong_stops c r before after wrong begun =
    elim begun [ inl same ↦ inl same | inr some ↦ inr (left_receipt r (codes ": wrong endpoint\n"), inr (inl (wrong, refl)), some) ]

-- the same if the document is below a floor
pub low_stops : (c : Configuration) (r : Receipt) (before after : Option (List ℕ)) → IsBelowFloor c r
    → (after ≡ before) ⊎ AppendsBeginning before after (left_receipt r (codes ": below floor\n"))
    → StopsAtItem (ReportsReceipt c) r (sink_run before after)
low_stops c r before after low begun =
    elim begun [ inl same ↦ inl same | inr some ↦ inr (left_receipt r (codes ": below floor\n"), inr (inr (low, refl)), some) ]

-- ---- lists

-- one more item that goes along has no line
left_goes : {A : Type 0} (goes : A → Type 0) (reports : A → List ℕ → Type 0) (xs : List A) (x : A) (lines : List (List ℕ)) → goes x
    → AreLeftOut goes reports xs lines → AreLeftOut goes reports (xs ++ x ∷ []) lines
left_goes goes reports [] x lines fits left = inl (fits, left)
left_goes goes reports (y ∷ xs) x lines fits left = elim left [
  | inl h ↦ inl (h.0, left_goes goes reports xs x lines fits h.1)
  | inr h ↦ inr (h.0, h.1, h.2, h.3, left_goes goes reports xs x h.1 fits h.4)
]

-- one more item that is left out has its line at the end
left_stays : {A : Type 0} (goes : A → Type 0) (reports : A → List ℕ → Type 0) (xs : List A) (x : A) (lines : List (List ℕ)) (line : List ℕ) → reports x line
    → AreLeftOut goes reports xs lines → AreLeftOut goes reports (xs ++ x ∷ []) (lines ++ line ∷ [])
left_stays goes reports [] x lines line stated left = inr (line, [], ap (λ ls. ls ++ line ∷ []) left, stated, refl)
left_stays goes reports (y ∷ xs) x lines line stated left = elim left [
  | inl h ↦ inl (h.0, left_stays goes reports xs x lines line stated h.1)
  | inr h ↦ inr (h.0, h.1 ++ line ∷ [], ap (λ ls. ls ++ line ∷ []) h.2, h.3, left_stays goes reports xs x h.1 line stated h.4)
]

-- there are no more lines than items
left_few : {A : Type 0} (goes : A → Type 0) (reports : A → List ℕ → Type 0) (xs : List A) (lines : List (List ℕ)) → AreLeftOut goes reports xs lines
    → length lines ≤ length xs
left_few goes reports [] lines left = let none = ap length left in omega (arith, none)
left_few goes reports (y ∷ xs) lines left = elim left [
  | inl h ↦ let few = left_few goes reports xs lines h.1 in omega (arith, few)
  | inr h ↦ let few = left_few goes reports xs h.1 h.4 in let size = ap length h.2 in omega (arith, few, size)
]

-- one more line joins the others
concat_push : (lines : List (List ℕ)) (line : List ℕ) → concat (lines ++ line ∷ []) ≡ concat lines ++ line
concat_push lines line = concat-append lines (line ∷ []) ∙ ap (λ t. concat lines ++ t) (append-nil line)

-- ---- so far

-- the first items were gone through, and the rest is to come
pub record SortedSoFar {A : Type 0} (goes : A → Type 0) (reports : A → List ℕ → Type 0) (all rest kept : List A) (sink : SinkRun) (n : ℕ) : Type 0 where
  pub done : List A
  pub split : all ≡ done ++ rest
  pub sorted : HasSorted goes reports done kept sink n

-- before the first item none was gone through
pub sorted_none : {A : Type 0} (goes : A → Type 0) (reports : A → List ℕ → Type 0) (all kept : List A) (held : Option (List ℕ)) → kept ≡ []
    → SortedSoFar goes reports all all kept (sink_run held held) 0
sorted_none {A} goes reports all kept held none = record {
  done = [];
  split = refl;
  sorted = record {
    members = λ a. (λ h. absurd (let has = subst (λ (xs : List A). Contains xs a) none h in omega (arith, has.1)), λ h. absurd (omega (arith, h.0.1)));
    few = let size = ap length none in omega (arith, size);
    lines = [];
    left = refl;
    written = Appends-nil held;
    counted = refl;
  };
}

-- one more item was gone through
pub sorted_more : {A : Type 0} (goes : A → Type 0) (reports : A → List ℕ → Type 0) (all before rest kept now : List A) (x : A)
    (first then later : Option (List ℕ)) (n k : ℕ) → before ≡ x ∷ rest
    → SortedSoFar goes reports all before kept (sink_run first then) n
    → SortsItem goes reports x kept now (sink_run then later) k
    → SortedSoFar goes reports all rest now (sink_run first later) (n + k)
sorted_more {A} goes reports all before rest kept now x first then later n k e so item =
    let done = so.done in
    let old = so.sorted in
    let split : all ≡ (done ++ x ∷ []) ++ rest = so.split ∙ ap (λ xs. done ++ xs) e ∙ sym (append_assoc done (x ∷ []) rest) in
    let size = length_push done x in
    record {
      done = done ++ x ∷ [];
      split = split;
      sorted = elim item [
        | inl h ↦ record {
          members = λ a. (
            λ has. elim ((h.0.members a).0 has) [
              | inl same ↦ (subst (Contains (done ++ x ∷ [])) same (Contains-push done x), subst goes same h.0.fits)
              | inr was ↦ let both = (old.members a).0 was in (Contains-append_left done (x ∷ []) a both.0, both.1)
            ],
            λ has. elim (Contains-push_cases done x a has.0) [
              | inl was ↦ (h.0.members a).1 (inr ((old.members a).1 (was, has.1)))
              | inr same ↦ (h.0.members a).1 (inl same)
            ],
          );
          few = let low = old.few in let one = h.0.few in omega (arith, low, one, size);
          lines = old.lines;
          left = left_goes goes reports done x old.lines h.0.fits old.left;
          written = subst (λ (t : Option (List ℕ)). Appends first t (concat old.lines)) (sym h.0.unwritten) old.written;
          counted = let count = old.counted in let none = h.1 in omega (arith, count, none);
        }
        | inr h ↦ record {
          members = λ a. (
            λ has. let both = (old.members a).0 (subst (λ (xs : List A). Contains xs a) h.0.same has) in
                (Contains-append_left done (x ∷ []) a both.0, both.1),
            λ has. elim (Contains-push_cases done x a has.0) [
              | inl was ↦ subst (λ (xs : List A). Contains xs a) (sym h.0.same) ((old.members a).1 (was, has.1))
              | inr same ↦ absurd (h.0.stays (subst goes (sym same) has.1))
            ],
          );
          few = let low = old.few in let same = ap length h.0.same in omega (arith, low, same, size);
          lines = old.lines ++ h.0.line ∷ [];
          left = left_stays goes reports done x old.lines h.0.line h.0.reported old.left;
          written = subst (Appends first later) (sym (concat_push old.lines h.0.line))
              (Appends-trans first then later (concat old.lines) h.0.line old.written h.0.written);
          counted = let count = old.counted in let one = h.1 in let longer = length_push old.lines h.0.line in omega (arith, count, one, longer);
        }
      ];
    }

-- after the last item all were
pub sorted_all : {A : Type 0} (goes : A → Type 0) (reports : A → List ℕ → Type 0) (all rest kept : List A) (sink : SinkRun) (n : ℕ) → rest ≡ []
    → SortedSoFar goes reports all rest kept sink n → HasSorted goes reports all kept sink n
sorted_all {A} goes reports all rest kept sink n none so =
    subst (λ (xs : List A). HasSorted goes reports xs kept sink n) (sym (so.split ∙ ap (λ xs. so.done ++ xs) none ∙ append-nil so.done)) so.sorted

-- there are no more lines so far than items
pub sorted_few : {A : Type 0} (goes : A → Type 0) (reports : A → List ℕ → Type 0) (all rest kept : List A) (sink : SinkRun) (n : ℕ)
    → SortedSoFar goes reports all rest kept sink n → n + length rest ≤ length all
sorted_few goes reports all rest kept sink n so =
    let few = left_few goes reports so.done so.sorted.lines so.sorted.left in
    let count = so.sorted.counted in
    let size = ap length so.split ∙ length-append so.done rest in
    omega (arith, few, count, size)

-- there is a place for the next item
pub sorted_place : {A : Type 0} (goes : A → Type 0) (reports : A → List ℕ → Type 0) (all before rest kept : List A) (x : A) (sink : SinkRun) (n : ℕ)
    → before ≡ x ∷ rest → SortedSoFar goes reports all before kept sink n → length kept < length all
sorted_place goes reports all before rest kept x sink n e so =
    let low = so.sorted.few in
    let size = ap length so.split ∙ length-append so.done before in
    let more = ap length e in
    omega (arith, low, size, more)

-- an error at the next item leaves a beginning of its line after the others, or nothing more
pub sorted_stops : {A : Type 0} (goes : A → Type 0) (reports : A → List ℕ → Type 0) (all before rest kept : List A) (x : A)
    (first then later : Option (List ℕ)) (n : ℕ) → before ≡ x ∷ rest
    → SortedSoFar goes reports all before kept (sink_run first then) n → StopsAtItem reports x (sink_run then later)
    → StopsSorting goes reports all (sink_run first later)
sorted_stops {A} goes reports all before rest kept x first then later n e so stops =
    let done = so.done in
    let old = so.sorted in
    elim stops [
      | inl none ↦ record {
        first = done;
        later = before;
        front = so.split;
        lines = old.lines;
        left = old.left;
        begun = subst (λ (t : Option (List ℕ)). AppendsBeginning first t (concat old.lines)) (sym none)
            (length (concat old.lines), subst (Appends first then) (sym (take-length (concat old.lines))) old.written);
      }
      | inr h ↦ record {
        first = done ++ x ∷ [];
        later = rest;
        front = so.split ∙ ap (λ xs. done ++ xs) e ∙ sym (append_assoc done (x ∷ []) rest);
        lines = old.lines ++ h.0 ∷ [];
        left = left_stays goes reports done x old.lines h.0 h.1 old.left;
        begun = (
          length (concat old.lines) + h.2.0,
          subst (Appends first later)
              (sym (ap (take (length (concat old.lines) + h.2.0)) (concat_push old.lines h.0) ∙ take-append-add (concat old.lines) h.0 h.2.0))
              (Appends-trans first then later (concat old.lines) (take h.2.0 h.0) old.written h.2.1),
        );
      }
    ]

-- an item has one line at most: with it there are not more lines so far than items
pub sorted_fits : {A : Type 0} (goes : A → Type 0) (reports : A → List ℕ → Type 0) (all before rest kept now : List A) (x : A) (sink other : SinkRun) (n k : ℕ)
    → before ≡ x ∷ rest → SortedSoFar goes reports all before kept sink n → SortsItem goes reports x kept now other k → n + k ≤ length all
sorted_fits goes reports all before rest kept now x sink other n k e so item =
    let few = sorted_few goes reports all before kept sink n so in
    let more = ap length e in
    elim item [
      | inl h ↦ let none = h.1 in omega (arith, few, more, none)
      | inr h ↦ let one = h.1 in omega (arith, few, more, one)
    ]

-- ---- the whole

-- the lists and lines of both parts, if all was gone through
lines_of_both : (k : Configuration) (m : Meaning) (records kept : List Distrust) (receipts others : List Receipt) (a b d : Option (List ℕ)) (n p : ℕ)
    → (one : HasSorted (λ y. HasDomain k y.domain) (ReportsRecord k) records kept (sink_run a b) n)
    → (two : HasSorted (IsFitting k) (ReportsReceipt k) receipts others (sink_run b d) p)
    → AreLinesOf k records receipts (one.lines ++ two.lines)
lines_of_both k m records kept receipts others a b d n p one two = record {
  of_records = one.lines;
  of_receipts = two.lines;
  both = refl;
  each_record = one.left;
  each_receipt = two.left;
}

-- if both parts were gone through, this was carried over
pub carried_over : (choice : Choice) (k kr kc : Configuration) (m new : Meaning) (kept : List Distrust) (a b d : Option (List ℕ)) (n p : ℕ)
    → kr ≡ k → kc ≡ k → IsMeaning new → new.config ≡ kc → new.records ≡ kept
    → HasSorted (λ y. HasDomain kr y.domain) (ReportsRecord kr) m.records kept (sink_run a b) n
    → HasSorted (IsFitting kc) (ReportsReceipt kc) (chosen_receipts choice m) new.held (sink_run b d) p
    → CarriesOver (carry_run choice k m a d) new (n + p)
carried_over choice k kr kc m new kept a b d n p er ec valid config records first second =
    let one = subst (λ (c : Configuration). HasSorted (λ y. HasDomain c y.domain) (ReportsRecord c) m.records kept (sink_run a b) n) er first in
    let two = subst (λ (c : Configuration). HasSorted (IsFitting c) (ReportsReceipt c) (chosen_receipts choice m) new.held (sink_run b d) p) ec second in
    record {
      is = record {
        valid = valid;
        config = config ∙ ec;
        receipts = two.members;
        records = λ x. subst (λ (xs : List Distrust). Contains xs x ↔ (Contains m.records x × HasDomain k x.domain)) (sym records) (one.members x);
      };
      lines = one.lines ++ two.lines;
      left = lines_of_both k m m.records kept (chosen_receipts choice m) new.held a b d n p one two;
      written = subst (Appends a d) (sym (concat-append one.lines two.lines))
          (Appends-trans a b d (concat one.lines) (concat two.lines) one.written two.written);
      counted = let i = one.counted in let j = two.counted in let size = length-append one.lines two.lines in omega (arith, i, j, size);
    }

-- an error before the first record leaves nothing
pub stops_first : (choice : Choice) (k : Configuration) (m : Meaning) (a : Option (List ℕ)) → StopsCarrying (carry_run choice k m a a)
stops_first choice k m a = record {
  records = [];
  later_records = m.records;
  first_records = refl;
  receipts = [];
  later_receipts = chosen_receipts choice m;
  first_receipts = refl;
  records_first = inl refl;
  lines = [];
  left = record { of_records = []; of_receipts = []; both = refl; each_record = refl; each_receipt = refl };
  begun = (0, Appends-nil a);
}

-- an error among the records leaves a beginning of their lines
pub stops_records : (choice : Choice) (k kr : Configuration) (m : Meaning) (a b : Option (List ℕ)) → kr ≡ k
    → StopsSorting (λ y. HasDomain kr y.domain) (ReportsRecord kr) m.records (sink_run a b) → StopsCarrying (carry_run choice k m a b)
stops_records choice k kr m a b er stops =
    let one = subst (λ (c : Configuration). StopsSorting (λ y. HasDomain c y.domain) (ReportsRecord c) m.records (sink_run a b)) er stops in
    record {
      records = one.first;
      later_records = one.later;
      first_records = one.front;
      receipts = [];
      later_receipts = chosen_receipts choice m;
      first_receipts = refl;
      records_first = inl refl;
      lines = one.lines;
      left = record { of_records = one.lines; of_receipts = []; both = sym (append-nil one.lines); each_record = one.left; each_receipt = refl };
      begun = one.begun;
    }

-- an error among the receipts leaves the lines of the records and a beginning of theirs
pub stops_receipts : (choice : Choice) (k kr kc : Configuration) (m : Meaning) (kept : List Distrust) (a b d : Option (List ℕ)) (n : ℕ) → kr ≡ k → kc ≡ k
    → HasSorted (λ y. HasDomain kr y.domain) (ReportsRecord kr) m.records kept (sink_run a b) n
    → StopsSorting (IsFitting kc) (ReportsReceipt kc) (chosen_receipts choice m) (sink_run b d) → StopsCarrying (carry_run choice k m a d)
stops_receipts choice k kr kc m kept a b d n er ec first stops =
    let one = subst (λ (c : Configuration). HasSorted (λ y. HasDomain c y.domain) (ReportsRecord c) m.records kept (sink_run a b) n) er first in
    let two = subst (λ (c : Configuration). StopsSorting (IsFitting c) (ReportsReceipt c) (chosen_receipts choice m) (sink_run b d)) ec stops in
    record {
      records = m.records;
      later_records = [];
      first_records = sym (append-nil m.records);
      receipts = two.first;
      later_receipts = two.later;
      first_receipts = two.front;
      records_first = inr refl;
      lines = one.lines ++ two.lines;
      left = record { of_records = one.lines; of_receipts = two.lines; both = refl; each_record = one.left; each_receipt = two.left };
      begun = (
        length (concat one.lines) + two.begun.0,
        subst (Appends a d)
            (sym (ap (take (length (concat one.lines) + two.begun.0)) (concat-append one.lines two.lines)
            ∙ take-append-add (concat one.lines) (concat two.lines) two.begun.0))
            (Appends-trans a b d (concat one.lines) (take two.begun.0 (concat two.lines)) one.written two.begun.1),
      );
    }
