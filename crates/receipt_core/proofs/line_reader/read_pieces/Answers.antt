use Rattle.std.proofs.Common.{sym, subst}
use Rattle.receipt_core.proofs.ReadFacts.{IsLine-pieces}
use Rattle.receipt_core.specs.Line.{IsLine}
use Rattle.receipt_core.specs.Parts.{pieces}
use Rattle.receipt_core.proofs.line_reader.read_pieces.Goals as goal

pub returns : goal.returns
returns c =
    let key = c.in-Some-Some.ensures in
    let voucher = c.in-Some-Some.ensures' in
    let domain = rw c.in-Some.is at c.in_ok-domain.ensures in
    let endpoint = rw c.in-Some-2.is at c.in_ok-endpoint.ensures in
    let document = rw c.in-Some-3.is at c.in_ok-document.ensures in
    subst (λ r. IsLine (pieces c.args.parts.now.document.now c.args.parts.now.domain.now c.args.parts.now.endpoint.now
    c.args.parts.now.key.now c.args.parts.now.voucher.now) r)
    (sym c.in_ok-receipt.ensures)
    (IsLine-pieces c.in-Some-3.document c.in-Some.domain c.in-Some-2.endpoint c.in-Some-Some.key c.in-Some-Some.voucher
    c.args.parts.now.document.now c.args.parts.now.domain.now c.args.parts.now.endpoint.now c.args.parts.now.key.now c.args.parts.now.voucher.now
    document domain endpoint key voucher)
