use Rattle.status_view.proofs.StatusFacts.{against_any}
use Rattle.status_view.proofs.current_status.is_distrusted.Goals as goal

pub returns : goal.returns
returns g c = against_any c.args.domain.now c.args.key (g.C.Closure.state c.args.closure.now).meaning.records c.is_distrusted.result c.is_distrusted.ensures
