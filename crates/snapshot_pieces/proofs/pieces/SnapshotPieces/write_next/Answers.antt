use Rattle.std.proofs.Common.{arith}
use Rattle.receipt_core.specs.Receipt.{IsReceipt}
use Rattle.receipt_core.proofs.LimitFacts.{receipt_limit-most}
use Rattle.snapshot_pieces.specs.Inside.Steps.{lent_list}
use Rattle.snapshot_pieces.proofs.PieceFacts.{after_each, after_few}
use Rattle.snapshot_pieces.proofs.pieces.SnapshotPieces.write_next.Goals as goal

pub lines_until-requires-clause-form : goal.lines_until-requires-clause-form
lines_until-requires-clause-form g c =
    after_each IsReceipt c.args.self.now.last (g.C.Closure.state c.args.closure.now).meaning.held (lent_list c.receipts_left-receipts.result)
    c.receipts_left-receipts.ensures.lent c.config-config.ensures.valid.receipts

pub lines_until-requires-clause-few : goal.lines_until-requires-clause-few
lines_until-requires-clause-few g c =
    let m = (g.C.Closure.state c.args.closure.now).meaning in
    let fewer = after_few c.args.self.now.last m.held (lent_list c.receipts_left-receipts.result) c.receipts_left-receipts.ensures.lent
    c.config-config.ensures.valid.rising in
    let few = c.config-config.ensures.valid.few in
    omega (arith, fewer, few, receipt_limit-most m.config)

pub returns-clause-few : goal.returns-clause-few
returns-clause-few g c = omega (arith, c.in_ok-run.ensures.few, c.in_ok-push_end.ensures.few)
