use Rattle.std.proofs.Common.{◌≡◌, ◌++◌, drop, map}
use Rattle.config_view.specs.ConfigText.{seed_line}
use Rattle.config_view.proofs.shown_lines.push_seeds.Given as goal

abbrev pub invariant-loop-seed : goal.invariant-loop-seed
invariant-loop-seed l = l.lines.items ++ map seed_line (drop l.seed-index l.seeds) ≡ l.initial.lines.items ++ map seed_line l.seeds
