use Rattle.std.proofs.Common.{◌≡◌, ◌++◌, drop, flat_map}
use Rattle.status_view.specs.StatusLines.{distrusted_lines}
use Rattle.status_view.proofs.text_writer.push_distrusted.Given as goal

abbrev pub invariant-loop-status : goal.invariant-loop-status
invariant-loop-status l =
    l.out.items ++ flat_map distrusted_lines (drop l.status-index l.domains) ≡ l.initial.out.items ++ flat_map distrusted_lines l.domains
