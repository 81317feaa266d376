use Rattle.std.proofs.Common.{◌≡◌, ◌++◌, drop, flat_map}
use Rattle.status_warnings.specs.WarningLines.{warning_line}
use Rattle.status_warnings.proofs.warning_lines.push_warning_lines.Given as goal

abbrev pub invariant-loop-warning : goal.invariant-loop-warning
invariant-loop-warning l =
    l.out.items ++ flat_map warning_line (drop l.warning-index l.warnings)
    ≡ l.initial.out.items ++ flat_map warning_line l.warnings
