use Rattle.replica_sync.proofs.NewsFacts.{takes_held}
use Rattle.replica_sync.proofs.news.News.take_record.Goals as goal

pub returns-then-is_distrusted : goal.returns-then-is_distrusted
returns-then-is_distrusted g c =
    takes_held (g.C.Closure.state c.args.closure.now).meaning c.args.self.now c.args.number c.args.distrust c.sets.ensures.records
    c.config-valid.ensures.valid c.requires.waits (c.is_distrusted.ensures.0 c.if-is_distrusted.true)
