use Rattle.receipt_core.proofs.line_reader.receipt_of.Goals as goal

pub returns-in_default-4 : goal.returns-in_default-4
returns-in_default-4 c = λ r says. (rw c.in_default-4.is at c.in_ok-document.ensures) r.document says.document
