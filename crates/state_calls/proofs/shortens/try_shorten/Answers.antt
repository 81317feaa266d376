use Rattle.std.proofs.Common.{◌++◌, false, true, subst, sym}
use Rattle.state_steps.specs.Shortenings.{FailsShorten, ShortensKeeps, after_shorten}
use Rattle.state_calls.specs.Tries.{MakesShorter}
use Rattle.state_calls.proofs.TryFacts.{last_try}
use Rattle.state_calls.proofs.shortens.try_shorten.Goals as goal

pub returns-in-Ok-clause-keeps : goal.returns-in-Ok-clause-keeps
returns-in-Ok-clause-keeps g c head first line keeps disk may =
    let text = head ++ c.args.lines.now in
    let last = last_try (MakesShorter head) (c.in-Some.step, c.args.lines.now) true (g.T.ShortenCalls.tried c.args.calls.now)
    (g.T.ShortenCalls.tried c.try_seen.new.self) first disk c.in-Ok.ensures may in
    subst (λ d. ShortensKeeps text c.done.new.self d line) (sym last.2)
    (subst (λ due. ShortensKeeps text c.done.new.self (after_shorten text due last.0) line) (sym c.in-Some.ensures)
    (c.done.ensures.keeps text last.0 line (keeps last.0 last.1)))

pub returns-in-Err-clause-failed : goal.returns-in-Err-clause-failed
returns-in-Err-clause-failed g c head first line keeps disk may =
    let text = head ++ c.args.lines.now in
    let last = last_try (MakesShorter head) (c.in-Some.step, c.args.lines.now) false (g.T.ShortenCalls.tried c.args.calls.now)
    (g.T.ShortenCalls.tried c.try_seen.new.self) first disk c.in-Err.ensures may in
    c.failed-end.ensures.keeps text last.0 disk line (keeps last.0 last.1)
    (subst (λ due. FailsShorten text due last.0 disk) c.in-Some.ensures last.2)
