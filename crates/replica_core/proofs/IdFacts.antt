-- Ids that were gathered, then sorted and each kept once, are those that are held.
use Rattle.std.proofs.Common.{◌≡◌, ◌∙◌, ℕ, inl, inr, Bool, List, [], ◌∷◌, ◌++◌, map, sym, ap, subst, append_assoc, bytes_eq, eq-eqb}
use Rattle.std.specs.Prelude.{Contains, filter}
use Rattle.std.specs.List.{AllByRecursion, dedup}
use Rattle.std.specs.List.Sorted.{IsStrictlySortedBy, IsPermutation, IsSorted}
use Rattle.std.specs.Cmp.Lexicographic.{on_texts, on_texts_equal, texts_ties}
use Rattle.std.proofs.lemmas.List.{map-append}
use Rattle.std.proofs.lemmas.List.Kept.{Any-dedup, Contains-from_dedup, IsStrictlySortedBy-dedup}
use Rattle.std.proofs.lemmas.List.Sorted.{Contains-permutation, IsPermutation-sym}
use Rattle.std.proofs.lemmas.Map.Lookups.{exact_bytes}
use Rattle.std.proofs.lemmas.Slice.Eq.{bytes_eq-Decides}
use Rattle.receipt_core.specs.declared.receipt_id.ReceiptId.{ReceiptId}
use Rattle.receipt_core.specs.Receipt.{Receipt, receipt_id_of}
use Rattle.receipt_core.specs.Rising.{with_items}
use Rattle.receipt_core.specs.Sets.{AreSets, Always}
use Rattle.receipt_core.proofs.RisingFacts.{AreSets-from_total}
use Rattle.replica_core.specs.State.{State, id_cmp, ids_held, bucket_of_id, is_of_bucket}
use Rattle.replica_core.proofs.ContainsFacts.{contains-none, filter-to, map-from, map-to}
use Rattle.replica_core.proofs.HaveFacts.{bytes_of, bytes-rising, named_cmp}

-- The step of the loop: one id more is gathered, and the others are still to come.
pub more-gathered : (r : Receipt) (id : ReceiptId) (rest others : List Receipt) (old new : List ReceiptId)
    (all : List (List ℕ)) → rest ≡ r ∷ others → id.0 ≡ receipt_id_of r → new ≡ old ++ id ∷ []
    → map bytes_of old ++ map receipt_id_of rest ≡ all → map bytes_of new ++ map receipt_id_of others ≡ all
more-gathered r id rest others old new all e i n h =
    ap (λ ids. map bytes_of ids ++ map receipt_id_of others) n
    ∙ ap (λ t. t ++ map receipt_id_of others) (map-append bytes_of old (id ∷ []))
    ∙ append_assoc (map bytes_of old) (id.0 ∷ []) (map receipt_id_of others)
    ∙ ap (λ t. map bytes_of old ++ t ∷ map receipt_id_of others) i
    ∙ ap (λ rs. map bytes_of old ++ map receipt_id_of rs) (sym e) ∙ h

-- ---- sets of ids

-- Ids make sets: their order distinguishes any two.
sets : AreSets Always id_cmp
sets = AreSets-from_total Always id_cmp (on_texts (λ (t : List ℕ). t)) (λ a b p q e. exact_bytes a b e)

-- What holds always holds of all ids.
always : (ids : List (List ℕ)) → AllByRecursion Always ids
always [] = tt
always (id ∷ ids) = (tt, always ids)

-- The id of each receipt of the bucket is among the ids held.
pub held-to : (state : State) (b : ℕ) (r : Receipt) → Contains state.held r → bucket_of_id r ≡ b → Contains (ids_held state b) (receipt_id_of r)
held-to state b r c e =
    let rs = filter (is_of_bucket b) state.held in
    let ids = map receipt_id_of rs in
    (sets.all_members ids [] (receipt_id_of r) (always ids) tt).1
    (inl (map-to receipt_id_of rs r (filter-to (is_of_bucket b) state.held r c (eq-eqb (bucket_of_id r) b e))))

-- The empty list of ids rises.
none-rises : IsStrictlySortedBy id_cmp []
unfolding IsStrictlySortedBy
none-rises = tt

-- whether two ids have the same bytes
abbrev same : ReceiptId → ReceiptId → Bool
same a b = bytes_eq a.0 b.0

-- ---- sorted, and each once

module _ (rs : List Receipt) (gathered sorted : List ReceiptId) (all : map bytes_of gathered ≡ map receipt_id_of rs)
    (moved : IsPermutation gathered sorted) where
  -- Each id that is kept is that of a receipt.
  kept-is : (id : List ℕ) → Contains (map bytes_of (dedup same sorted)) id → Contains (map receipt_id_of rs) id
  kept-is id has =
      let m = map-from bytes_of (dedup same sorted) id has in
      let before = Contains-permutation sorted gathered m.0 (IsPermutation-sym gathered sorted moved) (Contains-from_dedup same sorted m.0 m.1) in
      subst (λ ids. Contains ids id) all (subst (Contains (map bytes_of gathered)) m.2 (map-to bytes_of gathered m.0 before))

  -- The id of each receipt is kept.
  is-kept : (id : List ℕ) → Contains (map receipt_id_of rs) id → Contains (map bytes_of (dedup same sorted)) id
  is-kept id has =
      let m = map-from bytes_of gathered id (subst (λ ids. Contains ids id) (sym all) has) in
      let found = Any-dedup (on_texts_equal bytes_of) sorted m.0 (Contains-permutation gathered sorted m.0 moved m.1) in
      let there = map-to bytes_of (dedup same sorted) found.1 (found.0, found.2, found.3) in
      subst (Contains (map bytes_of (dedup same sorted))) (sym ((bytes_eq-Decides m.0.0 found.1.0).0 found.4) ∙ m.2) there

  -- The ids that are kept are the sorted list of the receipts' ids, which a have names.
  pub are-held : IsSorted named_cmp sorted → map bytes_of (dedup same sorted) ≡ with_items id_cmp (map receipt_id_of rs) []
  are-held up =
      let ids = map receipt_id_of rs in
      sets.equal _ _
      (bytes-rising (dedup same sorted) (IsStrictlySortedBy-dedup (on_texts bytes_of) (λ x y. texts_ties x.0 y.0) sorted up))
      (sets.all_rise ids [] none-rises)
      (λ id. (
        λ h. (sets.all_members ids [] id (always ids) tt).1 (inl (kept-is id h)),
        λ h. elim ((sets.all_members ids [] id (always ids) tt).0 h) [ inl k ↦ is-kept id k | inr none ↦ absurd (contains-none id none) ],
      ))
