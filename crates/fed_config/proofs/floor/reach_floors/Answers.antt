use Rattle.std.proofs.Common.{rules}
use Rattle.fed_config.specs.Configuration.{ReachesEach}
use Rattle.fed_config.proofs.ZipFacts.{each_at, each_more}
use Rattle.fed_config.proofs.floor.reach_floors.Goals as goal

pub loop-seed-preserved : goal.loop-seed-preserved
loop-seed-preserved c = each_more (λ s. ReachesEach c.args.floors.now s.domain s.document) c.args.seeds.now c.loop-seed.seed-index
    c.seed-item.result c.loop-seed-test.true c.seed-item.is c.loop-seed.invariant (search rules)

pub returns-then-not-reaches_floor : goal.returns-then-not-reaches_floor
returns-then-not-reaches_floor c = (
  λ stated. absurd (cc),
  λ each. let stated = c.if-not-reaches_floor.ensures.1 (each_at (λ s. ReachesEach c.args.floors.now s.domain s.document) c.args.seeds.now
      c.loop-seed.seed-index c.seed-item.result c.loop-seed-test.true c.seed-item.is each) in absurd (cc),
)
