use Rattle.receipt_core.specs.Receipt.{IsReceipt, receipt_cmp}
use Rattle.replica_core.specs.Inside.Earlier.{passed}
use Rattle.replica_core.proofs.PlaceFacts.{among-held, among-before}
use Rattle.replica_core.proofs.free_places.is_receipt_among.Goals as goal

pub returns-then-holds-clause-among : goal.returns-then-holds-clause-among
returns-then-holds-clause-among g c =
    let held = (g.C.Closure.state c.args.closure.now).meaning.held in
    among-held IsReceipt receipt_cmp c.sets.ensures.receipts (passed c.args.before.now) held c.args.receipt.now
    c.holds.result c.requires.forms c.config-valid.ensures.valid.receipts c.if-holds.true
    c.holds.ensures

pub returns-clause-among : goal.returns-clause-among
returns-clause-among g c =
    let held = (g.C.Closure.state c.args.closure.now).meaning.held in
    among-before IsReceipt receipt_cmp c.sets.ensures.receipts (passed c.args.before.now) held c.args.receipt.now
    c.holds.result c.is_repeat-is_repeat.result c.requires.forms c.config-valid.ensures.valid.receipts c.requires.form
    c.if-holds.false c.holds.ensures c.is_repeat-is_repeat.ensures.repeat
