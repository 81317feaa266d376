use Rattle.std.proofs.Common.{◌≡◌, ◌++◌, drop, flat_map}
use Rattle.status_view.specs.StatusLines.{keyless_line}
use Rattle.status_view.proofs.text_writer.push_keyless.Given as goal

abbrev pub invariant-loop-seed : goal.invariant-loop-seed
invariant-loop-seed l =
    l.out.items ++ flat_map keyless_line (drop l.seed-index l.seeds) ≡ l.initial.out.items ++ flat_map keyless_line l.seeds
