use Rattle.std.proofs.Common.{take}
use Rattle.std.specs.List.{AllZip}
use Rattle.fed_config.specs.Reading.{SaysUrl}
use Rattle.fed_config.proofs.names.read_urls.Given as goal

abbrev pub invariant-loop-entry : goal.invariant-loop-entry
invariant-loop-entry l = AllZip SaysUrl (take l.entry-index l.entries) l.urls.items
