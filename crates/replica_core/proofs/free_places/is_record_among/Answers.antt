use Rattle.receipt_core.specs.Receipt.{distrust_cmp}
use Rattle.receipt_core.specs.Sets.{Always}
use Rattle.replica_core.specs.Inside.Earlier.{passed}
use Rattle.replica_core.proofs.PlaceFacts.{always, among-held, among-before}
use Rattle.replica_core.proofs.free_places.is_record_among.Goals as goal

pub returns-then-is_distrusted-clause-among : goal.returns-then-is_distrusted-clause-among
returns-then-is_distrusted-clause-among g c =
    let records = (g.C.Closure.state c.args.closure.now).meaning.records in
    among-held Always distrust_cmp c.sets.ensures.records (passed c.args.before.now) records c.args.distrust.now
    c.is_distrusted.result (always (passed c.args.before.now)) (always records) c.if-is_distrusted.true c.is_distrusted.ensures

pub returns-clause-among : goal.returns-clause-among
returns-clause-among g c =
    let records = (g.C.Closure.state c.args.closure.now).meaning.records in
    among-before Always distrust_cmp c.sets.ensures.records (passed c.args.before.now) records c.args.distrust.now
    c.is_distrusted.result c.is_repeat-is_repeat.result (always (passed c.args.before.now)) (always records) tt c.if-is_distrusted.false
    c.is_distrusted.ensures c.is_repeat-is_repeat.ensures.repeat
