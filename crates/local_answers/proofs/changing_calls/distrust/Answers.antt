use Rattle.std.proofs.Common.{inl, inr, refl, rules, true, false}
use Rattle.std.proofs.lemmas.Result.{err_from_is_err_and}
use Rattle.fedbundle.specs.CommandRun.{state_run}
use Rattle.fedbundle.specs.Observe.{IsAsHeld}
use Rattle.local_answers.specs.Inside.AskedRun.{run_of_asked}
use Rattle.local_answers.specs.RequestRun.{CallRun, EndsDistrust}
use Rattle.local_answers.proofs.ChangingFacts.{distrust_call_ends, distrust_called, distrust_unchanged, dry_run_called, dry_run_ends, flag_said}
use Rattle.local_answers.proofs.ChangingFacts.{none_changed, on_any_error}
use Rattle.local_answers.proofs.changing_calls.distrust.Goals as goal

pub returns-then-is_flag_given-clause-answers : goal.returns-then-is_flag_given-clause-answers
returns-then-is_flag_given-clause-answers g c =
    dry_run_called _ c.shown.result (flag_said _ _ _ true c.given.ensures c.is_flag_given.ensures c.if-is_flag_given.true) c.shown.ensures.answers

pub returns-then-is_flag_given-clause-ends : goal.returns-then-is_flag_given-clause-ends
returns-then-is_flag_given-clause-ends g c =
    let state = g.C.Closure.state c.args.closure.now in
    let run : CallRun = run_of_asked c.args.asked (state_run state state) in
    dry_run_ends run c.shown.result (flag_said _ _ _ true c.given.ensures c.is_flag_given.ensures c.if-is_flag_given.true) c.shown.ensures.ends

pub returns-then-is_flag_given-clause-journals : goal.returns-then-is_flag_given-clause-journals
returns-then-is_flag_given-clause-journals g c =
    none_changed (g.C.Closure.state c.args.closure.now) c.shown.result c.shown.ensures.silent

pub returns-in_err-keys-clause-ends : goal.returns-in_err-keys-clause-ends
returns-in_err-keys-clause-ends g c =
    let exit = err_from_is_err_and c.from_residual.result c.from_residual.ensures.1 in
    rw (exit.1, exit.2) (inr (record {
      dry = false;
      is_dry = flag_said _ _ _ false c.given.ensures c.is_flag_given.ensures c.if-is_flag_given.false;
      ends = inl c.in_err-keys.ensures.ends;
    }))

pub returns-in_ok-keys-clause-answers : goal.returns-in_ok-keys-clause-answers
returns-in_ok-keys-clause-answers g c =
    let run : CallRun = run_of_asked c.args.asked (state_run (g.C.Closure.state c.args.closure.now) (g.C.Closure.state c.distrust.new.closure)) in
    distrust_called run c.in_ok-keys.keys _ c.distrust.result c.in_ok-keys.ensures.says
    (flag_said _ _ _ false c.given.ensures c.is_flag_given.ensures c.if-is_flag_given.false)
    (flag_said _ _ _ c.is_flag_given-else-is_flag_given.result c.given-else-is_flag_given.ensures c.is_flag_given-else-is_flag_given.ensures refl)
    (search rules) c.distrust.ensures.answers

pub returns-in_ok-keys-clause-ends : goal.returns-in_ok-keys-clause-ends
returns-in_ok-keys-clause-ends g c =
    let run : CallRun = run_of_asked c.args.asked (state_run (g.C.Closure.state c.args.closure.now) (g.C.Closure.state c.distrust.new.closure)) in
    distrust_call_ends run c.in_ok-keys.keys c.distrust.result c.in_ok-keys.ensures.says
    (flag_said _ _ _ false c.given.ensures c.is_flag_given.ensures c.if-is_flag_given.false)
    c.distrust.ensures.ends

pub returns-in_ok-keys-clause-unchanged : goal.returns-in_ok-keys-clause-unchanged
returns-in_ok-keys-clause-unchanged g c =
    let state = state_run (g.C.Closure.state c.args.closure.now) (g.C.Closure.state c.distrust.new.closure) in
    let given = c.in_ok-keys.keys in
    on_any_error c.distrust.result (EndsDistrust state given) (IsAsHeld state) (distrust_unchanged state given) c.distrust.ensures.ends
