use Rattle.std.proofs.Common.{◌≡◌, ◌∙◌, true, false}
use Rattle.receipt_core.proofs.ReadFacts.{no_line_said, another_line}
use Rattle.receipt_core.proofs.line_reader.read_value.Goals as goal

pub returns-in_default : goal.returns-in_default
returns-in_default c = no_line_said c.args.bytes.now _ c.requires (rw c.in_default.is at c.in_ok-receipt.ensures)

pub returns-else-is_same : goal.returns-else-is_same
returns-else-is_same c = another_line c.args.bytes.now _ c.in-Some.receipt c.requires (rw c.in-Some.is at c.in_ok-receipt.ensures) (λ e.
    let yes : c.is_same.result ≡ true = c.is_same.ensures.1 (c.as_slice.ensures.value ∙ c.in_ok-write_line.ensures ∙ e) in
    let not_so : c.is_same.result ≡ false = c.if-is_same.false in
    cc)
