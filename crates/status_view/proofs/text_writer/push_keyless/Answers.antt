use Rattle.status_view.specs.StatusLines.{keyless_line}
use Rattle.status_view.proofs.PieceFacts.{flat_end, flat_next}
use Rattle.status_view.proofs.text_writer.push_keyless.Goals as goal

pub loop-seed-preserved : goal.loop-seed-preserved
loop-seed-preserved c =
    flat_next keyless_line c.args.seeds.now c.loop-seed.seed-index c.seed-item.result _ _ _
    c.loop-seed-test.true
    c.seed-item.is c.loop-seed.invariant c.in_ok-push_keyless_line.ensures

pub returns : goal.returns
returns c =
    flat_end keyless_line c.args.seeds.now c.loop-seed.seed-index _ _
    c.loop-seed-test.false c.loop-seed.invariant
