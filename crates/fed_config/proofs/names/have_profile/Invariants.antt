use Rattle.std.proofs.Common.{take}
use Rattle.std.specs.List.{AllByRecursion}
use Rattle.fed_config.specs.Reading.{IsProfile}
use Rattle.fed_config.proofs.names.have_profile.Given as goal

abbrev pub invariant-loop-entry : goal.invariant-loop-entry
invariant-loop-entry l = AllByRecursion (λ t. IsProfile t.profile) (take l.entry-index l.entries)
