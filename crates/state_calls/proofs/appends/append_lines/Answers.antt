use Rattle.std.proofs.Common.{subst}
use Rattle.state_steps.specs.Appends.{AppendKeeps, written_after}
use Rattle.state_steps.specs.declared.appending.AppendStep.TheVariants.{WriteLines}
use Rattle.state_calls.proofs.TryFacts.{append_due, on_err}
use Rattle.state_calls.proofs.appends.append_lines.Goals as goal

pub returns-in_err-try_append-in-Some-WriteLines-clause-failed :
    goal.returns-in_err-try_append-in-Some-WriteLines-clause-failed
returns-in_err-try_append-in-Some-WriteLines-clause-failed g c written first line kept =
    on_err c.from_residual.result (c.in_err-try_append-in-Some-WriteLines.ensures.failed written first line
    (λ disk may. c.add.ensures.keeps written disk line (kept disk may)))

pub returns-in_ok-try_append-in-Some-WriteLines-clause-keeps :
    goal.returns-in_ok-try_append-in-Some-WriteLines-clause-keeps
returns-in_ok-try_append-in-Some-WriteLines-clause-keeps g c written first line kept done disk may =
    let due = append_due c.add.new.self.stage WriteLines
    (let it = c.in-Some-WriteLines.field-0-is in let is = c.in-Some-WriteLines.is in let ensures = c.next.ensures in cc) in
    subst (λ stage. AppendKeeps (written_after c.args.lines.now stage written) c.try_append.new.appending disk line) due
    (c.in_ok-try_append-in-Some-WriteLines.ensures.keeps written first line
    (λ was before. c.add.ensures.keeps written was line (kept was before)) disk may)
