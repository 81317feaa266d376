-- The orders of receipts, triples and records of distrust are total, and distinguish what differs.
use Rattle.std.specs.Prelude.{Bool, Some}
use Rattle.std.specs.Ordering.{eq_by_cmp}
use Rattle.std.specs.Cmp.{IsTotalOrder, IsEquivalence, IsPartialOrder, then_total, eq_by_cmp_equiv}
use Rattle.std.specs.Cmp.{partial_order_from_total}
use Rattle.std.specs.Cmp.Lexicographic.{on_texts}
use Rattle.receipt_core.specs.Receipt.{Receipt, line, receipt_cmp, triple_cmp, distrust_cmp}
use Rattle.receipt_core.specs.declared.distrust.Distrust.{Distrust}
use Rattle.receipt_core.specs.declared.triple.Triple.{Triple}

pub receipt_total : IsTotalOrder receipt_cmp
receipt_total = on_texts line

pub triple_total : IsTotalOrder triple_cmp
triple_total = then_total (on_texts (λ (t : Triple). t.domain))
    (then_total (on_texts (λ (t : Triple). t.document.0)) (on_texts (λ (t : Triple). t.key.0)))

pub distrust_total : IsTotalOrder distrust_cmp
distrust_total = then_total (on_texts (λ (x : Distrust). x.key.0))
    (on_texts (λ (x : Distrust). x.domain))

-- the order does not distinguish them
abbrev pub same_receipt : Receipt → Receipt → Bool
same_receipt r s = eq_by_cmp receipt_cmp r s

abbrev pub same_triple : Triple → Triple → Bool
same_triple a b = eq_by_cmp triple_cmp a b

abbrev pub same_distrust : Distrust → Distrust → Bool
same_distrust x y = eq_by_cmp distrust_cmp x y

pub receipt_equiv : IsEquivalence same_receipt
receipt_equiv = eq_by_cmp_equiv receipt_total

pub triple_equiv : IsEquivalence same_triple
triple_equiv = eq_by_cmp_equiv triple_total

pub distrust_equiv : IsEquivalence same_distrust
distrust_equiv = eq_by_cmp_equiv distrust_total

pub receipt_po : IsPartialOrder same_receipt (λ r s. Some (receipt_cmp r s))
receipt_po = partial_order_from_total receipt_total

pub triple_po : IsPartialOrder same_triple (λ a b. Some (triple_cmp a b))
triple_po = partial_order_from_total triple_total

pub distrust_po : IsPartialOrder same_distrust (λ x y. Some (distrust_cmp x y))
distrust_po = partial_order_from_total distrust_total
