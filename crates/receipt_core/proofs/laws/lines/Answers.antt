use Rattle.receipt_core.proofs.LineFacts.{one_line, one_record, distrust_order, record_first}
use Rattle.receipt_core.proofs.laws.lines.Goals as goal

pub returns-clause-one_receipt : goal.returns-clause-one_receipt
returns-clause-one_receipt c = one_line

pub returns-clause-one_record : goal.returns-clause-one_record
returns-clause-one_record c = one_record

pub returns-clause-records : goal.returns-clause-records
returns-clause-records c = distrust_order

pub returns-clause-record_first : goal.returns-clause-record_first
returns-clause-record_first c = record_first
