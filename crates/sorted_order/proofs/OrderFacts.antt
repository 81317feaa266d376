-- Lists in order
use Rattle.std.proofs.Common.{◌≡◌, inl, inr, ◌⊎◌, ℕ, ◌+◌, ◌-◌, ◌<◌, ◌≤◌, Bool, true, List, length, slice_index_or, ◌∙◌, ap, arith}
use Rattle.std.proofs.lemmas.Bool.{cases_lt}
use Rattle.std.proofs.lemmas.List.Edits.{length-insert, get_or-insert_below, get_or-insert_at, get_or-insert_above}
use Rattle.std.specs.declared.cmp.Ordering.{Ordering}
use Rattle.std.specs.List.{AllPairs, AllWithin, insert}
use Rattle.std.specs.Ordering.{ordering_index}
use Rattle.sorted_order.specs.Sought.{IsRising}

-- Items in the order `less` are sorted for each search that agrees with it: the law `order_rises`.
pub order_rises_lem : {T : Type 0} (less : T → T → Bool) (compared : T → Ordering) (items : List T) → AllPairs (λ x y. less x y ≡ true) items
    → ((x y : T) → less x y ≡ true → ordering_index (compared x) ≤ ordering_index (compared y)) → IsRising compared items
order_rises_lem less compared items all keeps = record {
  rising = λ i j d h l.
      elim (cases_lt i j) [
        | inl before ↦ keeps (slice_index_or items i d) (slice_index_or items j d) (all i j d before l)
        | inr same ↦
            let e : i ≡ j = omega arith in
            rw e (omega arith)
      ];
}

-- what is read after an insertion
abbrev pub IsMoved : {T : Type 0} → List T → ℕ → T → ℕ → T → Type 0
IsMoved items at item k d = ((k < at) × (slice_index_or (insert items at item) k d ≡ slice_index_or items k d))
    ⊎ (((k ≡ at) × (slice_index_or (insert items at item) k d ≡ item))
    ⊎ ((at < k) × (slice_index_or (insert items at item) k d ≡ slice_index_or items (k - 1) d)))

-- What is read after an insertion is what was there, the new item, or what was one place earlier.
moved : {T : Type 0} (items : List T) (at : ℕ) (item : T) (k : ℕ) (d : T) → at ≤ length items → IsMoved items at item k d
moved items at item k d l =
    elim (cases_lt k at) [
      | inl below ↦ inl (below, get_or-insert_below items at item d k below l)
      | inr not_below ↦
          elim (cases_lt at k) [
            | inl above ↦
                let before : k ≡ (k - 1) + 1 = omega arith in
                inr (inr (above, ap (λ n. slice_index_or (insert items at item) n d) before ∙ get_or-insert_above items at item d (k - 1) (omega arith) l))
            | inr not_above ↦
                let here : k ≡ at = omega arith in
                inr (inl (here, ap (λ n. slice_index_or (insert items at item) n d) here ∙ get_or-insert_at items at item d l))
          ]
    ]

-- An item that is inserted into its gap leaves all pairs in order: the law `insertion_keeps_order`.
pub insertion_keeps_lem : {T : Type 0} (less : T → T → Bool) (items : List T) (at : ℕ) (item : T) → at ≤ length items
    → AllPairs (λ x y. less x y ≡ true) items → AllWithin (λ x. less x item ≡ true) items 0 at
    → AllWithin (λ x. less item x ≡ true) items at (length items) → AllPairs (λ x y. less x y ≡ true) (insert items at item)
insertion_keeps_lem less items at item l all before after = λ i j d h w.
    let len = length-insert items at item l in
    elim (moved items at item i d l) [
      | inl low ↦
          elim (moved items at item j d l) [
            | inl same ↦ rw (low.1, same.1) (all i j d h (omega arith))
            | inr others ↦
                elim others [
                  | inl here ↦ rw (low.1, here.1) (before i d (omega arith) low.0)
                  | inr above ↦ rw (low.1, above.1) (all i (j - 1) d (omega (arith, low.0, above.0)) (omega (arith, above.0)))
                ]
          ]
      | inr rest ↦
          elim rest [
            | inl here ↦
                elim (moved items at item j d l) [
                  | inl below ↦ absurd (omega (arith, here.0, below.0))
                  | inr others ↦
                      elim others [
                        | inl same ↦ absurd (omega (arith, here.0, same.0))
                        | inr above ↦ rw (here.1, above.1) (after (j - 1) d (omega (arith, above.0)) (omega (arith, above.0)))
                      ]
                ]
            | inr high ↦
                elim (moved items at item j d l) [
                  | inl below ↦ absurd (omega (arith, high.0, below.0))
                  | inr others ↦
                      elim others [
                        | inl same ↦ absurd (omega (arith, high.0, same.0))
                        | inr above ↦ rw (high.1, above.1) (all (i - 1) (j - 1) d (omega (arith, high.0, above.0)) (omega (arith, above.0)))
                      ]
                ]
          ]
    ]
