use Rattle.std.proofs.Common.{◌≡◌, ◌++◌, drop, flat_map}
use Rattle.text_lines.specs.TextLines.{line_with_feed}
use Rattle.text_lines.proofs.line_writer.render.Given as goal

abbrev pub invariant-loop-line : goal.invariant-loop-line
invariant-loop-line l = l.text.items ++ flat_map line_with_feed (drop l.line-index l.lines)
    ≡ l.initial.text.items ++ flat_map line_with_feed l.lines
