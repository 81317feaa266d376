-- Labels in order are found, and one that is missing has a place
use Rattle.std.proofs.Common.{◌≡◌, ℕ, ◌+◌, ◌-◌, ◌<◌, ◌≤◌, inl, inr, List, [], ◌∷◌, ◌++◌, length, get_or, Option}
use Rattle.std.proofs.Common.{Some, None, arith, refl, sym, ap, ◌∙◌, subst}
use Rattle.std.specs.Prelude.{Contains, slice_get}
use Rattle.std.specs.declared.cmp.Ordering.{Ordering}
use Rattle.std.specs.declared.cmp.Ordering.TheVariants.{Less, Equal, Greater}
use Rattle.std.specs.Cmp.{IsTotalOrder}
use Rattle.std.specs.Cmp.Lexicographic.{slice_cmp}
use Rattle.std.specs.Ordering.{nat_cmp, ordering_then, ordering_index, ordering_reverse}
use Rattle.std.specs.List.{insert, cons_option}
use Rattle.std.proofs.lemmas.Bool.{cases_lt, cases_order}
use Rattle.std.proofs.lemmas.Cmp.{nat_cmp_total, nat_list_cmp_total, on_total, then_total, tied_itself}
use Rattle.std.proofs.lemmas.List.Edits.{length-insert, get_or-insert_below, get_or-insert_at, get_or-insert_above}
use Rattle.std.proofs.lemmas.Map.Lookups.{exact_bytes, exact_unsigned}
use Rattle.std.proofs.lemmas.Option.{slice_get-get_or, none-some, same_Some}
use Rattle.sorted_order.specs.Sought.{IsRising, IsMissing}
use Rattle.sorted_order.specs.ArenaView.{ArenaView, picked, in_order, Arranges}
use Rattle.label_index.specs.declared.label.Label.{Label}
use Rattle.label_index.specs.Labels.{label_cmp, IsInOrder}
use Rattle.std.proofs.lemmas.List.Elements.{Contains-append_right}
use Rattle.wait_index.proofs.NetLawFacts.{contains-cons}

-- The order of labels is total.
pub label-total : IsTotalOrder label_cmp
label-total =
    then_total (on_total (λ (l : Label). l.domain) nat_cmp_total)
    (then_total (on_total (λ (l : Label). l.key.0) nat_list_cmp_total)
    (on_total (λ (l : Label). l.document.0) nat_list_cmp_total))

-- What ties by two comparisons ties by each.
pub then-first : (a b : Ordering) → ordering_then a b ≡ Equal → (a ≡ Equal) × (b ≡ Equal)
then-first Less b e = absurd (cc)
then-first Equal b e = (refl, e)
then-first Greater b e = absurd (cc)

-- Labels that tie are equal.
pub label-exact : (a b : Label) → label_cmp a b ≡ Equal → a ≡ b
label-exact a b e =
    let keys : Ordering = slice_cmp nat_cmp a.key.0 b.key.0 in
    let documents : Ordering = slice_cmp nat_cmp a.document.0 b.document.0 in
    let first = then-first (nat_cmp a.domain b.domain) (ordering_then keys documents) e in
    let second = then-first keys documents first.1 in
    let domain : a.domain ≡ b.domain = exact_unsigned a.domain b.domain first.0 in
    let key : a.key.0 ≡ b.key.0 = exact_bytes a.key.0 b.key.0 second.0 in
    let document : a.document.0 ≡ b.document.0 = exact_bytes a.document.0 b.document.0 second.1 in
    ap (λ (n : ℕ). let l : Label = record { domain = n; document = a.document; key = a.key } in l) domain
    ∙ ap (λ (bytes : List ℕ). let l : Label = record { domain = b.domain; document = record { 0 = bytes }; key = a.key } in l) document
    ∙ ap (λ (bytes : List ℕ). let l : Label = record { domain = b.domain; document = b.document; key = record { 0 = bytes } } in l) key

-- ---- what is sought among labels in order

-- A label before another compares to what is sought no greater than that.
index-rises : (a b x : Label) → label_cmp a b ≡ Less → (o : Ordering) → label_cmp b x ≡ o → ordering_index (label_cmp a x) ≤ ordering_index o
index-rises a b x l Less e = let f : label_cmp a x ≡ Less = label-total.trans a b x l e in omega (arith, ap ordering_index f)
index-rises a b x l Equal e =
    let same : b ≡ x = label-exact b x e in
    let f : label_cmp a x ≡ Less = subst (λ y. label_cmp a y ≡ Less) same l in
    omega (arith, ap ordering_index f)
index-rises a b x l Greater e = most (label_cmp a x)
  where
    most : (o : Ordering) → ordering_index o ≤ 2
    most Less = omega arith
    most Equal = omega arith
    most Greater = omega arith

-- Labels in order rise for the search of one.
pub rising-from_in_order : (labels : List Label) (x : Label) → IsInOrder labels → IsRising (λ a. label_cmp a x) labels
rising-from_in_order labels x h = record {
  rising = λ i j d l within.
      elim (cases_order i j) [
        | inl e ↦ let f : ordering_index (label_cmp (get_or labels i d) x)
            ≡ ordering_index (label_cmp (get_or labels j d) x) =
            ap (λ k. ordering_index (label_cmp (get_or labels k d) x)) e in omega (arith, f)
        | inr c ↦
            elim c [
              | inl b ↦ index-rises (get_or labels i d) (get_or labels j d) x (h i j d b within) (label_cmp (get_or labels j d) x) refl
              | inr b ↦ absurd (omega (arith, b, l))
            ]
      ];
}

-- a label that is missing comes into its place

-- What comes after a label has that before it.
after-less : (a x : Label) → label_cmp a x ≡ Greater → label_cmp x a ≡ Less
after-less a x e = label-total.antisymm x a ∙ ap ordering_reverse e

-- A label that is missing is put at the place of the search's end, and all are in order.
pub in_order-insert : (labels : List Label) (place : ℕ) (x : Label) → IsInOrder labels
    → IsMissing (λ a. label_cmp a x) labels place → IsInOrder (insert labels place x)
in_order-insert labels place x h m i j d l within =
    let size = length-insert labels place x m.within in
    elim (cases_order j place) [
      | inl e ↦
          let at : get_or (insert labels place x) j d ≡ x = ap (λ k. get_or (insert labels place x) k d) e ∙ get_or-insert_at labels place x d m.within in
          let below : get_or (insert labels place x) i d ≡ get_or labels i d = get_or-insert_below labels place x d i (omega (arith, l, e)) m.within in
          subst (λ a. label_cmp a (get_or (insert labels place x) j d) ≡ Less) (sym below)
          (subst (λ b. label_cmp (get_or labels i d) b ≡ Less) (sym at) (m.before i d (omega arith) (omega (arith, l, e))))
      | inr c ↦
          elim c [
            | inl b ↦
                let first : get_or (insert labels place x) i d ≡ get_or labels i d = get_or-insert_below labels place x d i (omega (arith, l, b)) m.within in
                let second : get_or (insert labels place x) j d ≡ get_or labels j d = get_or-insert_below labels place x d j b m.within in
                subst (λ a. label_cmp a (get_or (insert labels place x) j d) ≡ Less) (sym first)
                (subst (λ a. label_cmp (get_or labels i d) a ≡ Less) (sym second) (h i j d l (omega (arith, b, m.within))))
            | inr b ↦
                let j_is : j ≡ (j - 1) + 1 = omega (arith, b) in
                let second : get_or (insert labels place x) j d ≡ get_or labels (j - 1) d =
                ap (λ k. get_or (insert labels place x) k d) j_is
                ∙ get_or-insert_above labels place x d (j - 1) (omega (arith, b)) m.within in
                let last : j - 1 < length labels = omega (arith, within, size, b) in
                subst (λ a. label_cmp (get_or (insert labels place x) i d) a ≡ Less) (sym second)
                (elim (cases_order i place) [
                  | inl e ↦
                      let first : get_or (insert labels place x) i d ≡ x =
                      ap (λ k. get_or (insert labels place x) k d) e ∙ get_or-insert_at labels place x d m.within in
                      subst (λ a. label_cmp a (get_or labels (j - 1) d) ≡ Less) (sym first)
                      (after-less (get_or labels (j - 1) d) x (m.after (j - 1) d (omega (arith, b)) last))
                  | inr f ↦
                      elim f [
                        | inl g ↦
                            let first : get_or (insert labels place x) i d ≡ get_or labels i d = get_or-insert_below labels place x d i g m.within in
                            subst (λ a. label_cmp a (get_or labels (j - 1) d) ≡ Less) (sym first) (h i (j - 1) d (omega (arith, g, b)) last)
                        | inr g ↦
                            let i_is : i ≡ (i - 1) + 1 = omega (arith, g) in
                            let first : get_or (insert labels place x) i d ≡ get_or labels (i - 1) d =
                            ap (λ k. get_or (insert labels place x) k d) i_is
                            ∙ get_or-insert_above labels place x d (i - 1) (omega (arith, g)) m.within in
                            subst (λ a. label_cmp a (get_or labels (j - 1) d) ≡ Less) (sym first) (h (i - 1) (j - 1) d (omega (arith, l, g)) last)
                      ]
                ])
          ]
    ]

-- each item of an arena is in its order

-- What was in the list still is after an option is put in front.
Contains-cons_option_later : {A : Type 0} (o : Option A) (rest : List A) (x : A) → Contains rest x → Contains (cons_option o rest) x
Contains-cons_option_later None rest x c = c
Contains-cons_option_later (Some y) rest x c = Contains-append_right (y ∷ []) rest x c

-- An option's item is in the list after it is put in front.
Contains-cons_option_here : {A : Type 0} (o : Option A) (rest : List A) (x : A) → o ≡ Some x → Contains (cons_option o rest) x
Contains-cons_option_here None rest x e = absurd (none-some x e)
Contains-cons_option_here (Some y) rest x e = subst (λ z. Contains (z ∷ rest) x) (sym (same_Some y x e)) (0, omega arith, refl)

-- The item with a listed number is picked.
pub Contains-picked : {A : Type 0} (items : List A) (numbers : List ℕ) (number : ℕ) (x : A) → Contains numbers number
    → slice_get items number ≡ Some x → Contains (picked items numbers) x
Contains-picked items [] number x c e = absurd (omega (arith, c.1))
Contains-picked items (n ∷ numbers) number x c e =
    elim (contains-cons n numbers number c) [
      | inl h ↦ Contains-cons_option_here (slice_get items n) (picked items numbers) x (ap (λ k. slice_get items k) (sym h) ∙ e)
      | inr h ↦ Contains-cons_option_later (slice_get items n) (picked items numbers) x (Contains-picked items numbers number x h e)
    ]

-- A label that the search does not find is not there.
pub missing-not_contained : (stock : ArenaView Label) (place : ℕ) (x : Label) → Arranges stock.order (length stock.items)
    → IsMissing (λ a. label_cmp a x) (in_order stock) place → Contains stock.items x → ⊥
missing-not_contained stock place x a m c =
    let at : slice_get stock.items c.0 ≡ Some x = slice_get-get_or stock.items c.0 x c.1 ∙ ap (λ y. Some y) c.2 in
    let d = Contains-picked stock.items stock.order c.0 x (a.each c.0 c.1) at in
    let tied : label_cmp (get_or (in_order stock) d.0 x) x ≡ Equal = subst (λ y. label_cmp y x ≡ Equal) (sym d.2) (tied_itself label-total x) in
    elim (cases_lt d.0 place) [
      | inl l ↦ let f : Less ≡ Equal = sym (m.before d.0 x (omega arith) l) ∙ tied in absurd (cc)
      | inr l ↦ let f : Greater ≡ Equal = sym (m.after d.0 x l d.1) ∙ tied in absurd (cc)
    ]

-- A label that comes last has the number of those before it.
pub label-last : (labels : List Label) (x : Label) → slice_get (labels ++ x ∷ []) (length labels) ≡ Some x
label-last [] x = refl
label-last (y ∷ labels) x = label-last labels x
