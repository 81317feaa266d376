-- Receipts whose key is not distrusted, in the order of what they need
use Rattle.std.proofs.Common.{◌≡◌, ◌+◌, ◌≤◌, ◌⊎◌, inl, inr, List, [], ◌∷◌, ◌++◌, length}
use Rattle.std.proofs.Common.{arith, sym, ap, subst}
use Rattle.std.proofs.Common.{length-append}
use Rattle.std.specs.Prelude.{Contains}
use Rattle.std.specs.List.Sorted.{IsPermutation}
use Rattle.std.proofs.lemmas.List.Sorted.{Contains-permutation, IsPermutation-sym, length_permutation}
use Rattle.std.proofs.lemmas.List.Elements.{Contains-append_left, Contains-push, Contains-push_cases}
use Rattle.receipt_core.specs.declared.distrust.Distrust.{Distrust}
use Rattle.receipt_core.specs.Receipt.{Receipt}
use Rattle.receipt_core.specs.Acceptance.{Meaning, distrust_of}
use Rattle.bundle_view.specs.Inside.Search.{AreTrusted}
use Rattle.closure_core.proofs.ContainsFacts.{contains_first, contains_later, contains_none, contains_cases}
use Rattle.receipt_core.specs.Limits.{most_receipts}

-- ---- receipts one after another

-- Each receipt that is done with and is not distrusted was taken, and the rest are still to come.
pub record AreSifted (records : List Distrust) (all taken rest : List Receipt) : Type 0 where
  pub there : (r : Receipt) → Contains all r → (Contains records (distrust_of r.endpoint.domain r) → ⊥) → Contains taken r ⊎ Contains rest r
  pub trusted : (r : Receipt) → Contains taken r → Contains all r × (Contains records (distrust_of r.endpoint.domain r) → ⊥)
  pub coming : (r : Receipt) → Contains rest r → Contains all r
  pub few : length taken + length rest ≤ length all

-- before the first receipt none was taken
pub sifted_none : (records : List Distrust) (all taken : List Receipt) → taken ≡ [] → AreSifted records all taken all
sifted_none records all taken e = record {
  there = λ r has t. inr has;
  trusted = λ r has. absurd (contains_none r (subst (λ rs. Contains rs r) e has));
  coming = λ r has. has;
  few = omega (arith, ap length e);
}

module _ (records : List Distrust) (all taken rest others : List Receipt) (x : Receipt) (is : rest ≡ x ∷ others) (s : AreSifted records all taken rest) where
  -- the next receipt, which is not distrusted, was taken
  pub sifted_takes : (Contains records (distrust_of x.endpoint.domain x) → ⊥) → AreSifted records all (taken ++ x ∷ []) others
  sifted_takes t = record {
    there = λ r has u. elim (s.there r has u) [
      | inl old ↦ inl (Contains-append_left taken (x ∷ []) r old)
      | inr new ↦ elim (contains_cases x others r (subst (λ rs. Contains rs r) is new)) [
        | inl e ↦ inl (subst (Contains (taken ++ x ∷ [])) e (Contains-push taken x))
        | inr later ↦ inr later
      ]
    ];
    trusted = λ r has. elim (Contains-push_cases taken x r has) [
      | inl old ↦ s.trusted r old
      | inr e ↦ subst (λ (q : Receipt). Contains all q × (Contains records (distrust_of q.endpoint.domain q) → ⊥)) e
          (s.coming x (subst (λ rs. Contains rs x) (sym is) (contains_first x others)), t)
    ];
    coming = λ r has. s.coming r (subst (λ rs. Contains rs r) (sym is) (contains_later x others r has));
    few = omega (arith, s.few, length-append taken (x ∷ []), ap length is);
  }

  -- the next receipt, which is distrusted, was left out
  pub sifted_skips : Contains records (distrust_of x.endpoint.domain x) → AreSifted records all taken others
  sifted_skips d = record {
    there = λ r has u. elim (s.there r has u) [
      | inl old ↦ inl old
      | inr new ↦ elim (contains_cases x others r (subst (λ rs. Contains rs r) is new)) [
        | inl e ↦ absurd (u (subst (λ (q : Receipt). Contains records (distrust_of q.endpoint.domain q)) e d))
        | inr later ↦ inr later
      ]
    ];
    trusted = s.trusted;
    coming = λ r has. s.coming r (subst (λ rs. Contains rs r) (sym is) (contains_later x others r has));
    few = omega (arith, s.few, ap length is);
  }

-- after the last receipt those that were taken are all that may be vouched for
pub sifted_all : (m : Meaning) (records : List Distrust) (all taken rest : List Receipt) → records ≡ m.records
    → all ≡ m.held → rest ≡ [] → length m.held ≤ most_receipts → AreSifted records all taken rest → AreTrusted m taken
sifted_all m records all taken rest e f none few s = record {
  exactly = λ r. (
    λ has. let h = s.trusted r has in (subst (λ rs. Contains rs r) f h.0, λ d. h.1 (subst (λ xs. Contains xs (distrust_of r.endpoint.domain r)) (sym e) d)),
    λ h. elim (s.there r (subst (λ rs. Contains rs r) (sym f) h.0) (λ d. h.1 (subst (λ xs. Contains xs (distrust_of r.endpoint.domain r)) e d))) [
      | inl has ↦ has
      | inr more ↦ absurd (contains_none r (subst (λ rs. Contains rs r) none more))
    ],
  );
  few = omega (arith, s.few, few, ap length f, ap length none);
}

-- the receipts that may be vouched for are the same in another order
pub trusted_moved : (m : Meaning) (xs ys : List Receipt) → IsPermutation xs ys → AreTrusted m xs → AreTrusted m ys
trusted_moved m xs ys p t = record {
  exactly = λ r. (
    λ has. (t.exactly r).0 (Contains-permutation ys xs r (IsPermutation-sym xs ys p) has),
    λ h. Contains-permutation xs ys r p ((t.exactly r).1 h),
  );
  few = omega (arith, t.few, length_permutation xs ys p);
}
