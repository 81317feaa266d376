-- The lines so far are those of the keys so far that are not distrusted.
use Rattle.std.proofs.Common.{drop}
use Rattle.local_answers.specs.Inside.NewLineSteps.{SiftsKeys, keys_left}
use Rattle.local_answers.proofs.new_lines.new_keys_of.Given as goal

abbrev pub invariant-loop-key : goal.invariant-loop-key
invariant-loop-key g l =
    SiftsKeys (g.C.Closure.state l.closure).meaning (keys_left l.of l.given (drop l.key-index l.given)) l.text.items l.keys.items
