use Rattle.std.proofs.Common.{rules}
use Rattle.fed_config.specs.Reading.{IsProfile}
use Rattle.fed_config.proofs.ZipFacts.{each_more}
use Rattle.fed_config.proofs.names.have_profile.Goals as goal

pub loop-entry-preserved : goal.loop-entry-preserved
loop-entry-preserved c = each_more (λ t. IsProfile t.profile) c.args.entries.now c.loop-entry.entry-index
    c.entry-item.result c.loop-entry-test.true c.entry-item.is c.loop-entry.invariant (search rules)
