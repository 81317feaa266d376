-- What the joins of sets of receipts and records are.
use Rattle.receipt_core.specs.Receipt.{IsReceipt, receipt_cmp, distrust_cmp}
use Rattle.receipt_core.specs.Order.{receipt_total, distrust_total}
use Rattle.receipt_core.specs.Sets.{Always}
use Rattle.receipt_core.specs.Receipt.{IsDistrust}
use Rattle.receipt_core.proofs.LineFacts.{one_receipt, one_distrust}
use Rattle.receipt_core.proofs.RisingFacts.{AreSets-from_total}
use Rattle.replica_core.proofs.JoinLawFacts.{Laws, joins-of}

-- the laws by which receipts and records are joined
pub joins : Laws
joins = record {
  receipts = joins-of receipt_cmp IsReceipt IsReceipt (λ r h. h) (AreSets-from_total IsReceipt receipt_cmp receipt_total one_receipt);
  records = joins-of distrust_cmp IsDistrust Always (λ x h. tt) (AreSets-from_total Always distrust_cmp distrust_total (λ a b p q. one_distrust a b));
}
