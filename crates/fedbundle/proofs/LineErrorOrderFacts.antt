-- Sorted lists within one another.
use Rattle.std.proofs.Common.{◌≡◌, ℕ, ◌<◌, ◌≤◌, List, [], ◌∷◌, ◌++◌, length, inl, inr, refl, sym, ◌∙◌, subst, arith}
use Rattle.std.specs.declared.cmp.Ordering.{Ordering}
use Rattle.std.specs.declared.cmp.Ordering.TheVariants.{Less}
use Rattle.std.specs.Ordering.{nat_cmp}
use Rattle.std.specs.Cmp.{IsTotalOrder, nat_cmp_total}
use Rattle.std.proofs.lemmas.Cmp.{on_total}
use Rattle.std.specs.List.Sorted.{IsStrictlySortedBy}
use Rattle.fed_config.specs.Configuration.{Configuration}
use Rattle.byte_lines.specs.Lines.{Lines}
use Rattle.receipt_core.specs.Order.{receipt_total}
use Rattle.receipt_core.specs.Receipt.{Receipt, receipt_cmp}
use Rattle.receipt_core.proofs.OrderFacts.{by_order_of, cmp_equal, cmp_greater}
use Rattle.receipt_core.proofs.RisingFacts.{Has, Has-from_contains, Contains-from_has, each_has}
use Rattle.bundle_view.proofs.RisingListFacts.{not_below_itself, not_both, same_list}
use Rattle.receipt_core.specs.Limits.{receipt_limit}
use Rattle.fedbundle.specs.Stream.{AreTaken, OverfillStore, NumberedError, line_error_cmp, AreLineErrors, AreFirstLineErrors}

module _ {A : Type 0} (cmp : A → A → Ordering) (total : IsTotalOrder cmp) where
  -- the first of a sorted list is below all others
  first_below : (x : A) (xs : List A) (y : A) → IsStrictlySortedBy cmp (x ∷ xs) → Has xs y → cmp x y ≡ Less
  unfolding IsStrictlySortedBy
  first_below x xs y rising has = each_has (λ z. cmp x z ≡ Less) xs y rising.0 has

  -- the rest of a sorted list is sorted
  tail_rises : (x : A) (xs : List A) → IsStrictlySortedBy cmp (x ∷ xs) → IsStrictlySortedBy cmp xs
  unfolding IsStrictlySortedBy
  tail_rises x xs rising = rising.1

  -- if the first item is not the first of the other list, all items come after that one
  behind_first : (x : A) (xs : List A) (y : A) (ys : List A) → IsStrictlySortedBy cmp (x ∷ xs)
      → IsStrictlySortedBy cmp (y ∷ ys) → ((a : A) → Has (x ∷ xs) a → Has (y ∷ ys) a)
      → Has ys x → (a : A) → Has (x ∷ xs) a → Has ys a
  behind_first x xs y ys p q within behind a has = elim (within a has) [
    | inr later ↦ later
    | inl e ↦ elim has [
      | inl f ↦ subst (Has ys) f behind
      | inr above ↦ absurd (not_both total x y (subst (λ z. cmp x z ≡ Less) (sym e) (first_below x xs a p above)) (first_below y ys x q behind))
    ]
  ]

  -- a list within another with the same first item has its rest within the other's rest
  tail_within : (x : A) (xs ys : List A) → IsStrictlySortedBy cmp (x ∷ xs) → ((a : A) → Has (x ∷ xs) a → Has (x ∷ ys) a) → (a : A) → Has xs a → Has ys a
  tail_within x xs ys p within a has = elim (within a (inr has)) [
    | inl e ↦ absurd (not_below_itself total x (subst (λ z. cmp x z ≡ Less) (sym e) (first_below x xs a p has)))
    | inr later ↦ later
  ]

  -- a sorted list within another is no longer than it
  pub no_longer : (xs ys : List A) → IsStrictlySortedBy cmp xs → IsStrictlySortedBy cmp ys → ((a : A) → Has xs a → Has ys a) → length xs ≤ length ys
  no_longer [] ys p q within = omega arith
  no_longer (x ∷ xs) [] p q within = absurd (within x (inl refl))
  no_longer (x ∷ xs) (y ∷ ys) p q within = elim (within x (inl refl)) [
    | inl e ↦
        let same : (a : A) → Has (x ∷ xs) a → Has (x ∷ ys) a = λ a h. subst (λ z. Has (z ∷ ys) a) e (within a h) in
        let rest = no_longer xs ys (tail_rises x xs p) (tail_rises y ys q) (tail_within x xs ys p same) in
        omega (arith, rest)
    | inr behind ↦
        let rest = no_longer (x ∷ xs) ys p (tail_rises y ys q) (behind_first x xs y ys p q within behind) in
        omega (arith, rest)
  ]

  -- a list that has, with each of its items, all of the other's that are below that is a beginning
  -- of the other
  pub is_beginning : (xs ys : List A) → IsStrictlySortedBy cmp xs → IsStrictlySortedBy cmp ys → ((a : A) → Has xs a → Has ys a)
      → ((a b : A) → Has xs a → Has ys b → cmp b a ≡ Less → Has xs b) → (rest : List A) × (ys ≡ xs ++ rest)
  is_beginning [] ys p q within closed = (ys, refl)
  is_beginning (x ∷ xs) [] p q within closed = absurd (within x (inl refl))
  is_beginning (x ∷ xs) (y ∷ ys) p q within closed = elim (within x (inl refl)) [
    | inl e ↦
        let same : (a : A) → Has (x ∷ xs) a → Has (x ∷ ys) a = λ a h. subst (λ z. Has (z ∷ ys) a) e (within a h) in
        let fewer : (a b : A) → Has xs a → Has ys b → cmp b a ≡ Less → Has xs b = λ a b has others below. elim (closed a b (inr has) (inr others) below) [
          | inl f ↦ absurd (not_below_itself total y (subst (λ z. cmp y z ≡ Less) (sym f ∙ sym e) (first_below y ys b q others)))
          | inr later ↦ later
        ] in
        let rest = is_beginning xs ys (tail_rises x xs p) (tail_rises y ys q) (tail_within x xs ys p same) fewer in
        (rest.0, λ i. e i ∷ rest.1 i)
    | inr behind ↦ absurd (elim (closed x y (inl refl) (inl refl) (first_below y ys x q behind)) [
      | inl f ↦ not_below_itself total x (subst (λ z. cmp z x ≡ Less) (sym f) (first_below y ys x q behind))
      | inr above ↦ not_both total x y (first_below x xs y p above) (first_below y ys x q behind)
    ])
  ]

-- the order of line errors is total
line_error_total : IsTotalOrder line_error_cmp
line_error_total = on_total (λ (x : NumberedError). x.number) nat_cmp_total

-- a line error below another has a lesser number
below_number : (x y : NumberedError) → line_error_cmp x y ≡ Less → x.number < y.number
below_number x y less =
    by_order_of (λ a b. nat_cmp a b ≡ Less → a < b) x.number y.number (λ low l. low)
    (λ same l. absurd (let e = cmp_equal x.number y.number same in cc))
    (λ above l. absurd (let g = cmp_greater x.number y.number above in cc)) less

-- lines have one list of line errors, as `laws::one_reporting` says
pub one_reporting : (c : Configuration) (lines : Lines) (xs ys : List NumberedError) → AreLineErrors c lines xs → AreLineErrors c lines ys → xs ≡ ys
one_reporting c lines xs ys p q =
    same_list line_error_cmp line_error_total xs ys p.rising q.rising (λ x has. q.complete x (p.sound x has)) (λ x has. p.complete x (q.sound x has))

-- first line errors are a beginning of all, as `laws::one_reporting` says
pub first_reporting : (c : Configuration) (lines : Lines) (xs ys : List NumberedError) → AreFirstLineErrors c lines xs
    → AreLineErrors c lines ys → (rest : List NumberedError) × (ys ≡ xs ++ rest)
first_reporting c lines xs ys p q =
    is_beginning line_error_cmp line_error_total xs ys p.rising q.rising
    (λ x has. Has-from_contains ys x (q.complete x (p.sound x (Contains-from_has xs x has))))
    (λ x y has others below. Has-from_contains xs y
    (p.before x y (Contains-from_has xs x has) (q.sound y (Contains-from_has ys y others))
    (below_number y x below)))

-- if some receipts to take are more than a closure holds, all of them are, as `laws::too_many`
-- says
pub too_many_for_all : (c : Configuration) (texts : List (List ℕ)) (rs : List Receipt) → OverfillStore c texts
    → AreTaken c texts rs → receipt_limit c < length rs
too_many_for_all c texts rs many taken =
    let fewer = no_longer receipt_cmp receipt_total many.some rs many.rising taken.rising
    (λ r has. Has-from_contains rs r (taken.complete r (many.each r (Contains-from_has many.some r has)))) in
    let low = many.many in
    omega (arith, fewer)
