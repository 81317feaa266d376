use Rattle.receipt_core.proofs.ReadFacts.{no_line_parsed}
use Rattle.receipt_core.proofs.line_reader.read_tree.Goals as goal

pub returns-in-Err : goal.returns-in-Err
returns-in-Err c = no_line_parsed c.args.bytes.now c.in-Err.error c.in-Err.ensures
