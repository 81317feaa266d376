use Rattle.fed_config.specs.Inside.Entries.{seed_text}
use Rattle.fed_config.specs.Reading.{SaysSeedDocument}
use Rattle.fed_config.proofs.ZipFacts.{zip_more}
use Rattle.fed_config.proofs.names.read_documents.Goals as goal

pub loop-entry-preserved : goal.loop-entry-preserved
loop-entry-preserved c =
    rw c.in_ok-push.ensures.items (zip_more (λ e document. SaysSeedDocument (seed_text e) document) c.args.entries.now
    c.loop-entry.documents.items c.loop-entry.entry-index c.entry-item.result c.in_ok-document_of.field-0
    c.loop-entry-test.true c.entry-item.is c.loop-entry.invariant c.in_ok-document_of.ensures)
