use Rattle.std.proofs.Common.{rules}
use Rattle.std.specs.List.{Contains}
use Rattle.fed_config.proofs.MeaningFacts.{finds_here}
use Rattle.fed_config.proofs.ZipFacts.{each_more}
use Rattle.fed_config.proofs.floor.first_unknown.Goals as goal

pub returns-then-is_none : goal.returns-then-is_none
returns-then-is_none c = finds_here (Contains c.args.domains.now) c.args.floors.now c.loop-entry.entry-index c.entry-item.result _
    c.loop-entry-test.true c.entry-item.is (search rules) c.loop-entry.invariant (search rules)

pub loop-entry-preserved : goal.loop-entry-preserved
loop-entry-preserved c = each_more (λ f. Contains c.args.domains.now f.domain) c.args.floors.now c.loop-entry.entry-index
    c.entry-item.result c.loop-entry-test.true c.entry-item.is c.loop-entry.invariant (search rules)
