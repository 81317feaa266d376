use Rattle.std.proofs.Common.{take}
use Rattle.std.specs.List.{AllZip}
use Rattle.fed_config.specs.Inside.Entries.{seed_text}
use Rattle.fed_config.specs.Reading.{SaysSeedDocument}
use Rattle.fed_config.proofs.names.read_documents.Given as goal

abbrev pub invariant-loop-entry : goal.invariant-loop-entry
invariant-loop-entry l = AllZip (λ e document. SaysSeedDocument (seed_text e) document) (take l.entry-index l.entries) l.documents.items
