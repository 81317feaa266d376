use Rattle.receipt_core.specs.Order.{receipt_total, distrust_total}
use Rattle.closure_core.specs.Order.{document_total}
use Rattle.closure_core.proofs.MemberFacts.{alike_turned, member_alike}
use Rattle.closure_core.proofs.RisingFacts.{rising_same}
use Rattle.closure_core.proofs.laws.one_list.Goals as goal

pub returns-clause-receipts : goal.returns-clause-receipts
returns-clause-receipts c rs ss one other same = rising_same receipt_total rs ss one other (λ r. (same r).0) (λ r. (same r).1)

pub returns-clause-records : goal.returns-clause-records
returns-clause-records c xs ys one other same = rising_same distrust_total xs ys one other (λ x. (same x).0) (λ x. (same x).1)

pub returns-clause-accepted : goal.returns-clause-accepted
returns-clause-accepted c m n domain ds es alike one other =
    rising_same document_total ds es one.rising other.rising
    (λ d has. other.complete d (member_alike m n alike _ (one.sound d has)))
    (λ d has. one.complete d (member_alike n m (alike_turned m n alike) _ (other.sound d has)))
