-- Which documents vouch for the receipts that are shown, and what of other domains is passed over
-- by that
use Rattle.std.proofs.Common.{◌≡◌, ◌↔◌, inl, inr, ℕ, List, [], ◌∷◌, ◌++◌, refl, sym, ap, ◌∙◌, subst, append_assoc, append-nil}
use Rattle.std.proofs.Common.{Bool, true, false, Option, Some, None}
use Rattle.std.specs.Prelude.{◌&&◌, not, Contains}
use Rattle.std.specs.BTreeSet.{BTreeSet, IsFromIterResult}
use Rattle.std.specs.Cmp.{IsTotalOrder}
use Rattle.std.specs.Cmp.Lexicographic.{on_texts}
use Rattle.std.specs.declared.cmp.Ordering.TheVariants.{Equal}
use Rattle.std.proofs.lemmas.Bool.{both_ways}
use Rattle.std.proofs.lemmas.List.Elements.{Contains-append_left, Contains-append_right, Contains-push_cases}
use Rattle.std.proofs.lemmas.Map.Lookups.{exact_bytes}
use Rattle.std.proofs.lemmas.Map.Views.{btree_set_contains_from_list}
use Rattle.bundle_doc.specs.Bundle.{Bundle, doc_id_of}
use Rattle.bundle_doc.specs.declared.document.DocId.{DocId}
use Rattle.receipt_core.specs.Acceptance.{Meaning}
use Rattle.receipt_core.specs.Receipt.{Receipt}
use Rattle.closure_core.proofs.ContainsFacts.{contains_first, contains_none}
use Rattle.bundle_view.specs.Current.{IsCurrent}
use Rattle.replica_view.specs.HeldTexts.{IsReceiptOfOther, is_left_aside}
use Rattle.replica_view.specs.TrustGraph.{IsPassedDocument, IsPassedDomain, IsShownVoucher}
use Rattle.replica_view.specs.Inside.ShownVouchers.{AreShownVouchers, IsVoucherSet, doc_id_cmp, is_current_voucher, is_passed, is_voucher}

-- ---- the list, receipt by receipt

-- These of all receipts are still to come, and the documents that vouch for the others that are
-- shown were added.
pub record VouchersSoFar (chosen : Option (List ℕ)) (all rest : List Receipt) (ids : List DocId) : Type 0 where
  pub done : List Receipt
  pub split : all ≡ done ++ rest
  pub sound : (id : DocId) → Contains ids id → (r : Receipt) × Contains done r × (IsReceiptOfOther chosen r → ⊥) × (r.voucher ≡ id)
  pub complete : (r : Receipt) → Contains done r → (IsReceiptOfOther chosen r → ⊥) → Contains ids r.voucher

module _ (chosen : Option (List ℕ)) where
  -- before the first receipt
  pub vouchers_none : (all : List Receipt) (ids : List DocId) → ids ≡ [] → VouchersSoFar chosen all all ids
  vouchers_none all ids e = record {
    done = [];
    split = refl;
    sound = λ id has. absurd (contains_none id (subst (λ xs. Contains xs id) e has));
    complete = λ r has shown. absurd (contains_none r has);
  }

  module _ (all ahead rest : List Receipt) (x : Receipt) (ids : List DocId) (e : ahead ≡ x ∷ rest) (so_far : VouchersSoFar chosen all ahead ids) where
    split_on : all ≡ (so_far.done ++ x ∷ []) ++ rest
    split_on = so_far.split ∙ ap (λ xs. so_far.done ++ xs) e ∙ sym (append_assoc so_far.done (x ∷ []) rest)

    sound_on : (id : DocId) → Contains ids id → (r : Receipt) × Contains (so_far.done ++ x ∷ []) r × (IsReceiptOfOther chosen r → ⊥) × (r.voucher ≡ id)
    sound_on id has =
        let found = so_far.sound id has in (found.0, Contains-append_left so_far.done (x ∷ []) found.0 found.1, found.2, found.3)

    -- the next receipt is not shown
    pub vouchers_pass : IsReceiptOfOther chosen x → VouchersSoFar chosen all rest ids
    vouchers_pass is = record {
      done = so_far.done ++ x ∷ [];
      split = split_on;
      sound = sound_on;
      complete = λ r has shown. elim (Contains-push_cases so_far.done x r has) [
        | inl before ↦ so_far.complete r before shown
        | inr same ↦ absurd (shown (subst (IsReceiptOfOther chosen) same is))
      ];
    }

    -- the next receipt's document was added
    pub vouchers_more : (later : List DocId) → (IsReceiptOfOther chosen x → ⊥) → later ≡ ids ++ x.voucher ∷ [] → VouchersSoFar chosen all rest later
    vouchers_more later not now = record {
      done = so_far.done ++ x ∷ [];
      split = split_on;
      sound = λ id has. elim (Contains-push_cases ids x.voucher id (subst (λ xs. Contains xs id) now has)) [
        | inl before ↦ sound_on id before
        | inr same ↦ (x, Contains-append_right so_far.done (x ∷ []) x (contains_first x []), not, same)
      ];
      complete = λ r has shown. subst (λ xs. Contains xs r.voucher) (sym now) (elim (Contains-push_cases so_far.done x r has) [
        | inl before ↦ Contains-append_left ids (x.voucher ∷ []) r.voucher (so_far.complete r before shown)
        | inr same ↦ Contains-append_right ids (x.voucher ∷ []) r.voucher
            (subst (λ (y : Receipt). Contains (x.voucher ∷ []) y.voucher) same (contains_first x.voucher []))
      ]);
    }

  -- after the last receipt
  pub vouchers_all : (m : Meaning) (all rest : List Receipt) (ids : List DocId) → rest ≡ [] → all ≡ m.held → VouchersSoFar chosen all rest ids
      → AreShownVouchers m chosen ids
  vouchers_all m all rest ids none same so_far =
      let whole : so_far.done ≡ m.held = sym (append-nil so_far.done) ∙ ap (λ xs. so_far.done ++ xs) (sym none) ∙ sym so_far.split ∙ same in
      record {
        sound = λ id has.
            let found = so_far.sound id has in
            record {
              receipt = found.0;
              held = subst (λ xs. Contains xs found.0) whole found.1;
              shown = found.2;
              is = ap (λ (i : DocId). i.0) found.3;
            };
        complete = λ id is. subst (Contains ids) (λ i. record { 0 = is.is i })
            (so_far.complete is.receipt (subst (λ xs. Contains xs is.receipt) (sym whole) is.held) is.shown);
      }

-- ---- the set

doc_id_total : IsTotalOrder doc_id_cmp
doc_id_total = on_texts (λ (d : DocId). d.0)

-- ids that the order does not distinguish are equal
one_doc_id : (a b : DocId) → doc_id_cmp a b ≡ Equal → a ≡ b
one_doc_id a b h =
    let same : a.0 ≡ b.0 = exact_bytes a.0 b.0 h in λ i. record { 0 = same i }

pub vouchers_set : (m : Meaning) (chosen : Option (List ℕ)) (ids : List DocId) (set : BTreeSet DocId) → AreShownVouchers m chosen ids
    → IsFromIterResult doc_id_cmp ids set → IsVoucherSet m chosen set
vouchers_set m chosen ids set are made = record {
  exactly = λ id.
      let both = btree_set_contains_from_list doc_id_total one_doc_id ids set made id in
      (λ stated. are.sound id (both.0 stated), λ is. both.1 (are.complete id is));
}

-- ---- what is passed over

both_stated : (a c : Bool) → (a && not c) ≡ true → (a ≡ true) × (c ≡ true → ⊥)
both_stated true true e = absurd (both_ways false refl e)
both_stated true false e = (refl, λ is. both_ways false refl is)
both_stated false c e = absurd (both_ways false refl e)

one_fails : (a c : Bool) → (a && not c) ≡ false → a ≡ true → (c ≡ true → ⊥) → ⊥
one_fails true true e is fails = fails refl
one_fails true false e is fails = both_ways true e refl
one_fails false c e is fails = both_ways false refl is

both_state_it : (a c : Bool) → a ≡ true → (c ≡ true → ⊥) → (a && not c) ≡ true
both_state_it true true is fails = absurd (fails refl)
both_state_it true false is fails = refl
both_state_it false c is fails = absurd (both_ways false refl is)

module _ (m : Meaning) (chosen : Option (List ℕ)) (vouchers : BTreeSet DocId) (set : IsVoucherSet m chosen vouchers) where
  module _ (b : Bool) (domain : List ℕ) (d : Bundle) (stated : b ≡ is_passed chosen vouchers domain d) where
    pub document_passed : b ≡ true → IsPassedDocument m chosen domain d
    document_passed is =
        let both = both_stated (is_left_aside chosen domain) (is_voucher vouchers domain d) (sym stated ∙ is) in
        record { other = both.0; unnamed = λ named. both.1 ((set.exactly (record { 0 = doc_id_of domain d })).1 named) }

    pub document_shown : b ≡ false → IsPassedDocument m chosen domain d → ⊥
    document_shown is passed = one_fails (is_left_aside chosen domain) (is_voucher vouchers domain d) (sym stated ∙ is) passed.other
        (λ named. passed.unnamed ((set.exactly (record { 0 = doc_id_of domain d })).0 named))

  -- the current document is one of them
  current_named : (domain : List ℕ) (current : Option Bundle) → is_current_voucher vouchers domain current ≡ true
      → (d : Bundle) × (current ≡ Some d) × IsShownVoucher m chosen (doc_id_of domain d)
  current_named domain None e = absurd (both_ways false refl e)
  current_named domain (Some d) e = (d, refl, (set.exactly (record { 0 = doc_id_of domain d })).0 e)

  pub domain_passed : (domain : List ℕ) (current : Option Bundle) → IsCurrent m domain current
      → ((a b : Option Bundle) → IsCurrent m domain a → IsCurrent m domain b → a ≡ b) → (other named result : Bool)
      → other ≡ is_left_aside chosen domain → named ≡ is_current_voucher vouchers domain current → result ≡ (other && not named)
      → (result ≡ true) ↔ IsPassedDomain m chosen domain
  domain_passed domain current is one other named result stated_other stated_named stated = (
    λ e.
        let both = both_stated other named (sym stated ∙ e) in
        record {
          other = sym stated_other ∙ both.0;
          unnamed = λ d is_d names.
              both.1 (stated_named ∙ ap (is_current_voucher vouchers domain) (one current (Some d) is is_d)
              ∙ (set.exactly (record { 0 = doc_id_of domain d })).1 names);
        },
    λ passed. stated ∙ both_state_it other named (stated_other ∙ passed.other)
        (λ e. let found = current_named domain current (sym stated_named ∙ e) in
        passed.unnamed found.0 (subst (IsCurrent m domain) found.1 is) found.2),
  )
