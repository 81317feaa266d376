use Rattle.std.proofs.Common.{false, true, subst, sym}
use Rattle.state_steps.specs.Appends.{AppendKeeps, FailsAppend, after_append, written_after}
use Rattle.state_calls.specs.Tries.{MakesAppended}
use Rattle.state_calls.proofs.TryFacts.{append_due, last_try}
use Rattle.state_calls.proofs.appends.try_append.Goals as goal

pub returns-in-Ok-clause-keeps : goal.returns-in-Ok-clause-keeps
returns-in-Ok-clause-keeps g c written first line keeps disk may =
    let lines = c.args.lines.now in
    let due = append_due c.args.appending.now.stage c.in-Some.step c.in-Some.ensures in
    let after = written_after lines c.args.appending.now.stage written in
    let last = last_try MakesAppended (c.in-Some.step, lines) true (g.T.LineCalls.tried c.args.calls.now)
    (g.T.LineCalls.tried c.try_lines.new.self) first disk c.in-Ok.ensures may in
    subst (λ d. AppendKeeps after c.done.new.self d line) (sym last.2)
    (subst (λ stage. AppendKeeps after c.done.new.self (after_append lines stage last.0) line) due
    (c.done.ensures.keeps written lines last.0 line (keeps last.0 last.1)))

pub returns-in-Err-clause-failed : goal.returns-in-Err-clause-failed
returns-in-Err-clause-failed g c written first line keeps disk may =
    let lines = c.args.lines.now in
    let due = append_due c.args.appending.now.stage c.in-Some.step c.in-Some.ensures in
    let last = last_try MakesAppended (c.in-Some.step, lines) false (g.T.LineCalls.tried c.args.calls.now)
    (g.T.LineCalls.tried c.try_lines.new.self) first disk c.in-Err.ensures may in
    c.failed.ensures.keeps written lines last.0 disk line (keeps last.0 last.1)
    (subst (λ stage. FailsAppend lines stage last.0 disk) (sym due) last.2)
