use Rattle.status_view.specs.StatusJson.{keyless_json}
use Rattle.status_view.proofs.PieceFacts.{parted_end, parted_next}
use Rattle.status_view.proofs.json_writer.push_keyless.Goals as goal

pub loop-seed-preserved : goal.loop-seed-preserved
loop-seed-preserved c =
    parted_next keyless_json c.args.seeds.now c.loop-seed.seed-index c.seed-item.result c.loop-seed.later _ _ _ _
    c.loop-seed-test.true
    c.seed-item.is c.loop-seed.invariant c.in_ok-push_comma.ensures c.in_ok-push_keyless_seed.ensures

pub returns : goal.returns
returns c =
    parted_end keyless_json c.args.seeds.now c.loop-seed.seed-index c.loop-seed.later _ _
    c.loop-seed-test.false c.loop-seed.invariant
