use Rattle.std.proofs.Common.{rules, sym, subst, ◌≡◌, ◌∙◌}
use Rattle.std.specs.Prelude.{OnOk}
use Rattle.state_steps.specs.Appends.{AppendKeeps}
use Rattle.state_calls.specs.Tries.{AfterTries, MakesAppended}
use Rattle.state_calls.proofs.TryFacts.{append_due, either_way, none_written}
use Rattle.state_calls.proofs.appends.try_if_due.Goals as goal

pub returns-in-Some-clause-keeps : goal.returns-in-Some-clause-keeps
returns-in-Some-clause-keeps g c written first line other kept =
    let stage = c.args.appending.now.stage in
    let due = append_due stage c.in-Some.due c.in-Some.ensures in
    let same = none_written stage c.in-Some.due c.as_slice.result.now written due
    (λ is. other (let same : c.in-Some.due ≡ c.args.step = (let eq = c.if-eq.ensures in search rules) in sym same ∙ is)) in
    either_way c.try_append.result
    (subst (λ w. OnOk c.try_append.result (AfterTries MakesAppended (g.T.LineCalls.tried c.try_append.new.calls) first
    (λ disk. AppendKeeps w c.try_append.new.appending disk line))) same (c.try_append.ensures.keeps written first line kept))
    (c.try_append.ensures.failed written first line kept)
