use Rattle.receipt_core.specs.Receipt.{IsReceipt, receipt_cmp, triple_cmp, distrust_cmp}
use Rattle.receipt_core.specs.Order.{receipt_total, triple_total, distrust_total}
use Rattle.receipt_core.specs.Sets.{Always}
use Rattle.receipt_core.proofs.LineFacts.{one_receipt, one_triple, one_distrust}
use Rattle.receipt_core.proofs.RisingFacts.{AreSets-from_total}
use Rattle.receipt_core.proofs.laws.sets.Goals as goal

pub returns-clause-receipts : goal.returns-clause-receipts
returns-clause-receipts c = AreSets-from_total IsReceipt receipt_cmp receipt_total one_receipt

pub returns-clause-triples : goal.returns-clause-triples
returns-clause-triples c = AreSets-from_total Always triple_cmp triple_total (λ a b p q. one_triple a b)

pub returns-clause-records : goal.returns-clause-records
returns-clause-records c = AreSets-from_total Always distrust_cmp distrust_total (λ a b p q. one_distrust a b)
