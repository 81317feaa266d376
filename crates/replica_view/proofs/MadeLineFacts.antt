-- Lines, made item by item
use Rattle.std.proofs.Common.{◌≡◌, ◌↔◌, inl, inr, ℕ, List, [], ◌∷◌, ◌++◌, refl, sym, ap, ◌∙◌, subst, append_assoc, append-nil}
use Rattle.std.proofs.Common.{Bool, true, false, Option, arith, length}
use Rattle.std.proofs.lemmas.Bool.{both_ways}
use Rattle.std.specs.Prelude.{Contains}
use Rattle.std.proofs.lemmas.List.Elements.{Contains-append_right}
use Rattle.closure_core.proofs.ContainsFacts.{contains_cases, contains_first, contains_later, contains_none}
use Rattle.receipt_core.specs.declared.distrust.Distrust.{Distrust}
use Rattle.receipt_core.specs.Acceptance.{Meaning}
use Rattle.receipt_core.specs.Receipt.{Receipt}
use Rattle.replica_view.specs.HeldLines.{ShowsReceipt, ShowsRecord}
use Rattle.replica_view.specs.HeldTexts.{AreDifferenceLines, AreLackedLines, AreLinesFor, HoldSame}
use Rattle.replica_view.specs.HeldTexts.{is_left_aside}
use Rattle.replica_view.specs.Inside.MadeLines.{AddsLinesFor, PushesLine}

-- ---- one item more at the end

-- an item that is passed over has no line
one_passed : {A : Type 0} (passed : A → Type 0) (shows : A → List ℕ → Type 0) (xs : List A) (lines : List (List ℕ)) (x : A)
    → AreLinesFor passed shows xs lines → passed x → AreLinesFor passed shows (xs ++ x ∷ []) lines
one_passed passed shows [] lines x are is = inl (is, are)
one_passed passed shows (y ∷ ys) lines x are is = elim are [
  | inl over ↦ inl (over.0, one_passed passed shows ys lines x over.1 is)
  | inr shown ↦ inr (shown.0, shown.1, shown.2, shown.3, shown.4, one_passed passed shows ys shown.2 x shown.5 is)
]

-- each other one has one
one_shown : {A : Type 0} (passed : A → Type 0) (shows : A → List ℕ → Type 0) (xs : List A) (lines : List (List ℕ)) (x : A) (line : List ℕ)
    → AreLinesFor passed shows xs lines → (passed x → ⊥) → shows x line → AreLinesFor passed shows (xs ++ x ∷ []) (lines ++ line ∷ [])
one_shown passed shows [] lines x line are not is = inr (not, line, [], ap (λ ls. ls ++ line ∷ []) are, is, refl)
one_shown passed shows (y ∷ ys) lines x line are not is = elim are [
  | inl over ↦ inl (over.0, one_shown passed shows ys lines x line over.1 not is)
  | inr shown ↦ inr (
    shown.0,
    shown.1,
    shown.2 ++ line ∷ [],
    ap (λ ls. ls ++ line ∷ []) shown.3,
    shown.4,
    one_shown passed shows ys shown.2 x line shown.5 not is,
  )
]

-- ---- in a loop

-- These of all items are still to come, and the lines of the others were added.
pub record LinesSoFar {A : Type 0} (passed : A → Type 0) (shows : A → List ℕ → Type 0) (all rest : List A) (old new : List (List ℕ)) : Type 0 where
  pub done : List A
  pub split : all ≡ done ++ rest
  pub made : List (List ℕ)
  pub are : AreLinesFor passed shows done made
  pub now : new ≡ old ++ made

module _ {A : Type 0} (passed : A → Type 0) (shows : A → List ℕ → Type 0) where
  -- before the first item
  pub lines_none : (all : List A) (old : List (List ℕ)) → LinesSoFar passed shows all all old old
  lines_none all old = record { done = []; split = refl; made = []; are = refl; now = sym (append-nil old) }

  module _ (all ahead rest : List A) (x : A) (old new : List (List ℕ)) (e : ahead ≡ x ∷ rest) (so_far : LinesSoFar passed shows all ahead old new) where
    split_on : all ≡ (so_far.done ++ x ∷ []) ++ rest
    split_on = so_far.split ∙ ap (λ xs. so_far.done ++ xs) e ∙ sym (append_assoc so_far.done (x ∷ []) rest)

    -- the next item is one of all
    pub next_of_all : Contains all x
    next_of_all = subst (λ xs. Contains xs x) (sym (so_far.split ∙ ap (λ xs. so_far.done ++ xs) e))
        (Contains-append_right so_far.done (x ∷ rest) x (contains_first x rest))

    -- the next item is passed over
    pub lines_pass : passed x → LinesSoFar passed shows all rest old new
    lines_pass is = record {
      done = so_far.done ++ x ∷ [];
      split = split_on;
      made = so_far.made;
      are = one_passed passed shows so_far.done so_far.made x so_far.are is;
      now = so_far.now;
    }

    -- the next item's line was added
    pub lines_more : (later : List (List ℕ)) → (passed x → ⊥) → PushesLine (shows x) new later → LinesSoFar passed shows all rest old later
    lines_more later not pushes = record {
      done = so_far.done ++ x ∷ [];
      split = split_on;
      made = so_far.made ++ pushes.line ∷ [];
      are = one_shown passed shows so_far.done so_far.made x pushes.line so_far.are not pushes.is;
      now = pushes.now ∙ ap (λ ls. ls ++ pushes.line ∷ []) so_far.now ∙ append_assoc old so_far.made (pushes.line ∷ []);
    }

  -- after the last item
  pub lines_all : (all rest items : List A) (old new : List (List ℕ)) → rest ≡ [] → all ≡ items → LinesSoFar passed shows all rest old new
      → AddsLinesFor passed shows items old new
  lines_all all rest items old new none same so_far = record {
    made = so_far.made;
    are = subst (λ xs. AreLinesFor passed shows xs so_far.made)
        (sym (append-nil so_far.done) ∙ ap (λ xs. so_far.done ++ xs) (sym none) ∙ sym so_far.split ∙ same) so_far.are;
    now = so_far.now;
  }

-- ---- no lines

-- If there is no line, each item was passed over.
none_all : {A : Type 0} (passed : A → Type 0) (shows : A → List ℕ → Type 0) (xs : List A) → AreLinesFor passed shows xs []
    → (x : A) → Contains xs x → passed x
none_all passed shows [] are x has = absurd (contains_none x has)
none_all passed shows (y ∷ ys) are x has = elim are [
  | inl over ↦ elim (contains_cases y ys x has) [ inl e ↦ subst passed e over.0 | inr later ↦ none_all passed shows ys over.1 x later ]
  | inr shown ↦ absurd (omega (arith, ap length shown.3))
]

-- And if each item is passed over, there is no line.
all_none : {A : Type 0} (passed : A → Type 0) (shows : A → List ℕ → Type 0) (xs : List A) (lines : List (List ℕ)) → AreLinesFor passed shows xs lines
    → ((x : A) → Contains xs x → passed x) → lines ≡ []
all_none passed shows [] lines are all = are
all_none passed shows (y ∷ ys) lines are all = elim are [
  | inl over ↦ all_none passed shows ys lines over.1 (λ x h. all x (contains_later y ys x h))
  | inr shown ↦ absurd (shown.0 (all y (contains_first y ys)))
]

-- a list of nothing has two empty parts
no_parts : {A : Type 0} (xs ys : List A) → xs ++ ys ≡ [] → (xs ≡ []) × (ys ≡ [])
no_parts [] ys e = (refl, e)
no_parts (x ∷ xs) ys e = absurd (omega (arith, ap length e))

-- ---- what is held, and what another one does not hold

-- If there is no such line, the other one holds all that this one holds.
module _ (one other : Meaning) (mark : List ℕ) (lines : List (List ℕ)) (lacked : AreLackedLines one other mark lines) where
  parts : lines ≡ [] → (lacked.receipts ≡ []) × (lacked.records ≡ [])
  parts e = no_parts lacked.receipts lacked.records (sym lacked.are ∙ e)

  has_receipts : lines ≡ [] → (r : Receipt) → Contains one.held r → Contains other.held r
  has_receipts e = none_all (Contains other.held) (ShowsReceipt one mark) one.held
      (subst (AreLinesFor (Contains other.held) (ShowsReceipt one mark) one.held) (parts e).0 lacked.each_receipt)

  has_records : lines ≡ [] → (x : Distrust) → Contains one.records x → Contains other.records x
  has_records e = none_all (Contains other.records) (ShowsRecord mark) one.records
      (subst (AreLinesFor (Contains other.records) (ShowsRecord mark) one.records) (parts e).1 lacked.each_record)

  none_lacked : ((r : Receipt) → Contains one.held r → Contains other.held r) → ((x : Distrust) → Contains one.records x → Contains other.records x)
      → lines ≡ []
  none_lacked receipts records = lacked.are
      ∙ (λ i. all_none (Contains other.held) (ShowsReceipt one mark) one.held lacked.receipts lacked.each_receipt receipts i
      ++ all_none (Contains other.records) (ShowsRecord mark) one.records lacked.records lacked.each_record records i)

-- There are no lines exactly if both hold the same.
pub same_held : (one other : Meaning) (lines : List (List ℕ)) → AreDifferenceLines one other lines → (lines ≡ []) ↔ HoldSame one other
same_held one other lines are = (
  λ e.
      let both = no_parts are.lacked are.gained (sym are.are ∙ e) in
      record {
        receipts = λ r. (has_receipts one other _ are.lacked are.are_lacked both.0 r, has_receipts other one _ are.gained are.are_gained both.1 r);
        records = λ x. (has_records one other _ are.lacked are.are_lacked both.0 x, has_records other one _ are.gained are.are_gained both.1 x);
      },
  λ same. are.are
      ∙ (λ i. none_lacked one other _ are.lacked are.are_lacked (λ r. (same.receipts r).0) (λ x. (same.records x).0) i
      ++ none_lacked other one _ are.gained are.are_gained (λ r. (same.receipts r).1) (λ x. (same.records x).1) i),
)

-- ---- what the code finds of a domain

pub passed_as : (chosen : Option (List ℕ)) (b : Bool) (d e : List ℕ) → d ≡ e → b ≡ is_left_aside chosen d → b ≡ true → is_left_aside chosen e ≡ true
passed_as chosen b d e same stated is = ap (is_left_aside chosen) (sym same) ∙ sym stated ∙ is

pub not_passed_as : (chosen : Option (List ℕ)) (b : Bool) (d e : List ℕ) → d ≡ e → b ≡ is_left_aside chosen d → b ≡ false
    → is_left_aside chosen e ≡ true → ⊥
not_passed_as chosen b d e same stated is passed = both_ways b is (stated ∙ ap (is_left_aside chosen) same ∙ passed)

pub passed_record : (chosen : Option (List ℕ)) (b : Bool) (d : List ℕ) → b ≡ is_left_aside chosen d → b ≡ true → is_left_aside chosen d ≡ true
passed_record chosen b d stated is = sym stated ∙ is

pub not_passed_record : (chosen : Option (List ℕ)) (b : Bool) (d : List ℕ) → b ≡ is_left_aside chosen d → b ≡ false → is_left_aside chosen d ≡ true → ⊥
not_passed_record chosen b d stated is passed = both_ways b is (stated ∙ passed)

-- ---- one line

-- four parts, added one after the other
pub four_parts : (o a h b d x y z w t : List ℕ) → x ≡ o ++ a → y ≡ x ++ h → z ≡ y ++ b → w ≡ z ++ t → t ≡ d → w ≡ o ++ (a ++ (h ++ (b ++ d)))
four_parts o a h b d x y z w t p q r s e =
    let flat : (((o ++ a) ++ h) ++ b) ++ d ≡ o ++ (a ++ (h ++ (b ++ d))) = simp append_assoc in
    s ∙ ap (λ v. v ++ t) (r ∙ ap (λ v. v ++ b) (q ∙ ap (λ v. v ++ h) p)) ∙ ap (λ v. (((o ++ a) ++ h) ++ b) ++ v) e ∙ flat
