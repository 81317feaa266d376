use Rattle.std.proofs.Common.{◌≡◌, ◌++◌, drop}
use Rattle.fed_config.specs.Domains.{gathered}
use Rattle.fed_config.proofs.domains.gather.Given as goal

abbrev pub invariant-loop-named : goal.invariant-loop-named
invariant-loop-named l = l.domains.items ++ gathered (drop l.named-index l.names) l.seeds ≡ gathered l.names l.seeds

abbrev pub invariant-loop-seed : goal.invariant-loop-seed
invariant-loop-seed l = l.domains.items ++ drop l.seed-index l.seeds ≡ gathered l.names l.seeds
