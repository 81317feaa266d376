use Rattle.std.proofs.Common.{refl}
use Rattle.fedbundle.proofs.ShownCallFacts.{none_shown, shows_as}
use Rattle.fedbundle.proofs.shown.show_alone.Goals as goal

pub returns-in-Report : goal.returns-in-Report
returns-in-Report g c = shows_as _ _ _ _ _ c.in-Report.is (c.report.ensures, (refl, refl))

pub returns-in-List : goal.returns-in-List
returns-in-List g c = shows_as _ _ _ _ _ c.in-List.is (c.list.ensures, (refl, refl))

pub returns-in-Graph : goal.returns-in-Graph
returns-in-Graph g c = shows_as _ _ _ _ _ c.in-Graph.is (c.graph.ensures, (refl, refl))

pub returns-in-Bundle : goal.returns-in-Bundle
returns-in-Bundle g c = shows_as _ _ _ _ _ c.in-Bundle.is (c.bundle.ensures, (refl, refl))

pub returns-in-Explain : goal.returns-in-Explain
returns-in-Explain g c = shows_as _ _ _ _ _ c.in-Explain.is c.explain.ensures

pub returns-in-Polls : goal.returns-in-Polls
returns-in-Polls g c = shows_as _ _ _ _ _ c.in-Polls.is c.polls.ensures

pub returns-in-Status : goal.returns-in-Status
returns-in-Status g c = shows_as _ _ _ _ _ c.in-Status.is c.status.ensures

pub returns-in-Distrust : goal.returns-in-Distrust
returns-in-Distrust g c = shows_as _ _ _ _ _ c.in-Distrust.is (c.distrust_effect.ensures, (refl, refl))

pub returns-in_default : goal.returns-in_default
returns-in_default g c =
    none_shown _ _ _ c.in_default.not-Report c.in_default.not-List c.in_default.not-Graph c.in_default.not-Bundle c.in_default.not-Explain
    c.in_default.not-Polls c.in_default.not-Status c.in_default.not-Distrust (refl, refl) (refl, refl)
