use Rattle.std.proofs.Common.{sym, ◌∙◌}
use Rattle.replica_sync.proofs.NewsFacts.{above_all}
use Rattle.replica_sync.proofs.news.is_above.Goals as goal

pub returns-in-Less : goal.returns-in-Less
returns-in-Less c = λ yes.
    above_all c.args.later.now c.in-Some.last.now c.args.distrust.now c.sets.ensures.records.total c.requires
    (sym c.in-Some.ensures.value) (sym c.cmp.ensures ∙ c.in-Less.is)
