use Rattle.receipt_core.proofs.LineFacts.{pieces_split}
use Rattle.receipt_core.proofs.line_reader.split_line.Goals as goal

pub returns : goal.returns
returns c =
    pieces_split _ _ _ _ _ _ _ _ _ _ _ c.in_ok-rest.ensures c.in_ok-rest-2.ensures c.in_ok-rest-3.ensures
    c.in_ok-rest-4.ensures c.in_ok-rest-5.ensures c.in_ok-document.ensures
