use Rattle.std.proofs.Common.{◌≡◌, ◌++◌}
use Rattle.change_view.specs.TurnTexts.{turn_journal}
use Rattle.change_view.proofs.turn_lines.lines_of_changes.Given as goal

abbrev pub invariant-loop-made : goal.invariant-loop-made
invariant-loop-made l = turn_journal l.turn.items ++ l.rest ≡ l.text
