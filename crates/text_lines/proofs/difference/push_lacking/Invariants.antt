use Rattle.std.proofs.Common.{◌≡◌, ◌++◌, drop, flat_map}
use Rattle.text_lines.specs.TextLines.{lines_lacking, marked_line}
use Rattle.text_lines.proofs.difference.push_lacking.Given as goal

abbrev pub invariant-loop-line : goal.invariant-loop-line
invariant-loop-line l = l.text.items ++ flat_map (marked_line l.mark) (lines_lacking (drop l.line-index l.one) l.other)
    ≡ l.initial.text.items ++ flat_map (marked_line l.mark) (lines_lacking l.one l.other)
