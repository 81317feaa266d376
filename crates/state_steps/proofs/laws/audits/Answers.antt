use Rattle.state_steps.proofs.CutFacts.{change_stays, left_in_order, same_found}
use Rattle.state_steps.proofs.laws.audits.Goals as goal

pub returns-clause-in_order : goal.returns-clause-in_order
returns-clause-in_order c texts keeping audit text held due left ends all order torn =
    left_in_order texts keeping.stage audit text held due left ends all order torn

pub returns-clause-same : goal.returns-clause-same
returns-clause-same c held found stay behind is cut first = same_found held found stay behind is cut first

pub returns-clause-stays : goal.returns-clause-stays
returns-clause-stays c texts keeping files change text snapshot journal held stay behind keeps left at_snapshot at_journal has is found cut =
    change_stays held text stay behind change.report (keeps.audited text snapshot journal left at_snapshot at_journal has) is found cut
