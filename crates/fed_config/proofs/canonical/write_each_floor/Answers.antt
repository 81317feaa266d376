use Rattle.std.proofs.Common.{sym, ◌∙◌}
use Rattle.fed_config.proofs.TextFacts.{floors_next, floors_end}
use Rattle.fed_config.proofs.canonical.write_each_floor.Goals as goal

pub loop-floor-preserved : goal.loop-floor-preserved
loop-floor-preserved c =
    rw (
      c.in_ok-write_value.ensures,
      c.in_ok-push.ensures.items,
      c.in_ok-write_text.ensures,
      c.in_ok-write_comma.ensures,
      c.as_str.ensures.text,
      c.from.ensures,
    )
    (sym (floors_next c.args.floors.now c.loop-floor.floor-index c.floor-item.result c.loop-floor.out.items
    c.loop-floor.later c.loop-floor-test.true c.floor-item.is) ∙ c.loop-floor.invariant)

pub returns : goal.returns
returns c = c.in_ok-push-2.ensures.items
    ∙ sym (floors_end c.args.floors.now c.loop-floor.floor-index c.loop-floor.out.items c.loop-floor.later
    c.loop-floor-test.false) ∙ c.loop-floor.invariant
