use Rattle.status_warnings.specs.Warnings.{late_warning}
use Rattle.status_warnings.proofs.WarningFacts.{flat_end, flat_next}
use Rattle.status_warnings.proofs.warning_search.push_late.Goals as goal

pub loop-fetch-preserved : goal.loop-fetch-preserved
loop-fetch-preserved c =
    flat_next (late_warning c.args.limits.now) c.args.fetches.now c.loop-fetch.fetch-index c.fetch-item.result _ _ _
    c.loop-fetch-test.true
    c.fetch-item.is c.loop-fetch.invariant c.in_ok-push_late_fetch.ensures

pub returns : goal.returns
returns c =
    flat_end (late_warning c.args.limits.now) c.args.fetches.now c.loop-fetch.fetch-index _ _
    c.loop-fetch-test.false c.loop-fetch.invariant
