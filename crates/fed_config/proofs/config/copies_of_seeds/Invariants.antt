use Rattle.std.proofs.Common.{◌≡◌, take}
use Rattle.fed_config.proofs.config.copies_of_seeds.Given as goal

abbrev pub invariant-loop-seed : goal.invariant-loop-seed
invariant-loop-seed l = l.copies.items ≡ take l.seed-index l.seeds
