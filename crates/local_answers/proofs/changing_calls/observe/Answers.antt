use Rattle.std.proofs.Common.{inl, inr, ap}
use Rattle.std.proofs.lemmas.Result.{err_from_is_err_and}
use Rattle.command_exits.specs.Exits.{exit_of_option}
use Rattle.fedbundle.specs.CommandRun.{state_run}
use Rattle.fedbundle.specs.Observe.{Fetched, IsAsHeld}
use Rattle.local_answers.specs.Inside.AskedRun.{run_of_asked}
use Rattle.local_answers.specs.RequestRun.{CallRun, EndsObserve, change_run}
use Rattle.local_answers.proofs.ChangingFacts.{observe_call_ends, observe_called, observe_unchanged, on_any_error, says_fetched}
use Rattle.local_answers.proofs.changing_calls.observe.Goals as goal

pub returns-in_err-wanted-clause-ends : goal.returns-in_err-wanted-clause-ends
returns-in_err-wanted-clause-ends g c =
    let exit = err_from_is_err_and c.from_residual.result c.from_residual.ensures.1 in
    rw (exit.1, exit.2) (inr (inl (inl (record { lacks = c.in_err-wanted.ensures.usage.1; is = ap exit_of_option c.in_err-wanted.ensures.usage.0 }))))

pub returns-in_err-domain-clause-ends : goal.returns-in_err-domain-clause-ends
returns-in_err-domain-clause-ends g c =
    let exit = err_from_is_err_and c.from_residual-in_err-domain.result c.from_residual-in_err-domain.ensures.1 in
    let refused = c.in_err-domain.ensures.refused in
    rw (exit.1, exit.2) (inr (inl (inr (record {
      text = c.in_ok-wanted.field-0.now;
      is_said = c.in_ok-wanted.ensures.ok;
      why = refused.0;
      refused = refused.2;
      is = refused.1;
    }))))

pub returns-in_err-verdict-clause-ends : goal.returns-in_err-verdict-clause-ends
returns-in_err-verdict-clause-ends g c =
    let exit = err_from_is_err_and c.from_residual-in_err-verdict.result c.from_residual-in_err-verdict.ensures.1 in
    rw (exit.1, exit.2) (inr (inr (inl c.in_err-verdict.ensures.ends)))

pub returns-clause-answers : goal.returns-clause-answers
returns-clause-answers g c =
    let run : CallRun = run_of_asked c.args.asked (state_run (g.C.Closure.state c.args.closure.now) (g.C.Closure.state c.observe.new.closure)) in
    let fetched : Fetched = record { domain = c.in_ok-domain.domain; verdict = c.in_ok-verdict.verdict } in
    observe_called run fetched c.observe.result
    (says_fetched run _ c.in_ok-wanted.field-0.now _ c.in_ok-wanted.ensures.ok c.in_ok-domain.ensures.ok c.in_ok-verdict.ensures.says)
    c.observe.ensures.answers

pub returns-clause-ends : goal.returns-clause-ends
returns-clause-ends g c =
    let run : CallRun = run_of_asked c.args.asked (state_run (g.C.Closure.state c.args.closure.now) (g.C.Closure.state c.observe.new.closure)) in
    let fetched : Fetched = record { domain = c.in_ok-domain.domain; verdict = c.in_ok-verdict.verdict } in
    observe_call_ends run fetched c.observe.result
    (says_fetched run _ c.in_ok-wanted.field-0.now _ c.in_ok-wanted.ensures.ok c.in_ok-domain.ensures.ok c.in_ok-verdict.ensures.says)
    c.observe.ensures.ends

pub returns-clause-unchanged : goal.returns-clause-unchanged
returns-clause-unchanged g c =
    let state = state_run (g.C.Closure.state c.args.closure.now) (g.C.Closure.state c.observe.new.closure) in
    let run = change_run state c.args.asked.input.now in
    let fetched : Fetched = record { domain = c.in_ok-domain.domain; verdict = c.in_ok-verdict.verdict } in
    on_any_error c.observe.result (EndsObserve run fetched) (IsAsHeld state) (observe_unchanged run fetched) c.observe.ensures.ends
