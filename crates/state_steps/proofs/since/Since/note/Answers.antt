use Rattle.std.proofs.Common.{ap, arith, length}
use Rattle.std.proofs.lemmas.List.{length-append}
use Rattle.state_steps.proofs.since.Since.note.Goals as goal

pub returns-then-not-is_held-clause-came : goal.returns-then-not-is_held-clause-came
returns-then-not-is_held-clause-came c came since none =
    grind (arith, c.is_empty.ensures, c.if-is_empty.false, length-append came c.args.lines.now, ap length none)
