use Rattle.std.proofs.Common.{arith}
use Rattle.receipt_core.proofs.ReadFacts.{no_long_line}
use Rattle.receipt_core.proofs.line_reader.read_receipt.Goals as goal

pub returns-then-bytes-gt-MAX_RECEIPT_LINE_BYTES : goal.returns-then-bytes-gt-MAX_RECEIPT_LINE_BYTES
returns-then-bytes-gt-MAX_RECEIPT_LINE_BYTES c = (omega arith, no_long_line c.args.bytes.now c.if-bytes-gt-MAX_RECEIPT_LINE_BYTES.true)
