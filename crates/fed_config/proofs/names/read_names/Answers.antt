use Rattle.fed_config.specs.Reading.{SaysNames}
use Rattle.fed_config.proofs.ZipFacts.{zip_more}
use Rattle.fed_config.proofs.names.read_names.Goals as goal

pub loop-entry-preserved : goal.loop-entry-preserved
loop-entry-preserved c =
    rw c.in_ok-push.ensures.items (zip_more SaysNames c.args.entries.now c.loop-entry.names.items
    c.loop-entry.entry-index c.entry-item.result c.in_ok-names_of.field-0 c.loop-entry-test.true c.entry-item.is
    c.loop-entry.invariant c.in_ok-names_of.ensures)
