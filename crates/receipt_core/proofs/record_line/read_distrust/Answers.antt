use Rattle.std.proofs.Common.{arith}
use Rattle.receipt_core.proofs.ReadFacts.{no_long_record, no_record_parsed, refused_record}
use Rattle.receipt_core.proofs.record_line.read_distrust.Goals as goal

pub returns-then-bytes-gt-MAX_RECORD_LINE_BYTES : goal.returns-then-bytes-gt-MAX_RECORD_LINE_BYTES
returns-then-bytes-gt-MAX_RECORD_LINE_BYTES c = (omega arith, no_long_record c.args.bytes.now c.if-bytes-gt-MAX_RECORD_LINE_BYTES.true)

pub returns-in-Err : goal.returns-in-Err
returns-in-Err c = refused_record c.args.bytes.now c.in-Err.error (omega arith) (no_record_parsed c.args.bytes.now c.in-Err.error c.in-Err.ensures)
