use Rattle.std.proofs.Common.{take}
use Rattle.std.specs.List.{AllZip}
use Rattle.fed_config.specs.Inside.Entries.{seed_text}
use Rattle.fed_config.specs.Reading.{SaysDomain}
use Rattle.fed_config.proofs.names.read_domains.Given as goal

abbrev pub invariant-loop-entry : goal.invariant-loop-entry
invariant-loop-entry l = AllZip (λ e domain. SaysDomain (seed_text e) domain) (take l.entry-index l.entries) l.domains.items
