use Rattle.std.proofs.Common.{refl}
use Rattle.replica_sync.proofs.NewsFacts.{waits_empty}
use Rattle.replica_sync.proofs.news.News.settle.Goals as goal

pub returns-clause-waits : goal.returns-clause-waits
returns-clause-waits g c =
    waits_empty (g.C.Closure.state c.distrust_all.new.closure).meaning _ c.config-valid.ensures.valid
    (record { none = c.clear.ensures.items; free = refl })
