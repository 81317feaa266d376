use Rattle.std.proofs.Common.{sym, subst}
use Rattle.bundle_view.specs.Current.{IsCurrent}
use Rattle.bundle_view.proofs.CurrentFacts.{last_current}
use Rattle.bundle_view.proofs.current_document.current.Goals as goal

pub returns : goal.returns
returns g c =
    subst (IsCurrent (g.C.Closure.state c.args.closure.now).meaning c.args.domain.now)
    (sym c.into_last.ensures) (last_current _ _ c.accepted.result c.accepted.ensures)
