use Rattle.std.proofs.Common.{◌++◌, ◌∙◌, ap, flat_map}
use Rattle.status_view.specs.StatusMetrics.{gauge_text}
use Rattle.status_view.proofs.PieceFacts.{flat_end}
use Rattle.status_view.proofs.metrics_writer.push_gauges.Goals as goal

pub returns : goal.returns
returns c =
    flat_end (gauge_text c.args.status.now) c.all_gauges-gauge-items.result.now c.loop-gauge.gauge-index _ _
    c.loop-gauge-test.false c.loop-gauge.invariant
    ∙ ap (λ xs. c.args.out.now.items ++ flat_map (gauge_text c.args.status.now) xs) c.all_gauges-gauge-items.ensures
