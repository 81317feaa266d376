use Rattle.std.proofs.Common.{take}
use Rattle.std.specs.List.{AllZip}
use Rattle.fed_config.specs.Reading.{SaysNames}
use Rattle.fed_config.proofs.names.read_names.Given as goal

abbrev pub invariant-loop-entry : goal.invariant-loop-entry
invariant-loop-entry l = AllZip SaysNames (take l.entry-index l.entries) l.names.items
