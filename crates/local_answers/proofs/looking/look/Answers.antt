use Rattle.std.proofs.Common.{◌∙◌, ap, inl, inr, refl, subst, sym}
use Rattle.std.proofs.lemmas.Result.{err_from_is_err_and}
use Rattle.command_line.specs.OptionTexts.{SaysNoManner}
use Rattle.fedbundle.specs.CommandRun.{state_run}
use Rattle.command_exits.specs.Exits.{exit_of_option}
use Rattle.local_answers.specs.Inside.AskedRun.{run_of_asked}
use Rattle.local_answers.specs.RequestRun.{CallRun, EndsAnyhow}
use Rattle.local_answers.proofs.ChangingFacts.{flag_said}
use Rattle.local_answers.proofs.LookFacts.{look_answered, look_ended}
use Rattle.local_answers.proofs.looking.look.Goals as goal

pub returns-in_err-_manner-clause-ends : goal.returns-in_err-_manner-clause-ends
returns-in_err-_manner-clause-ends g c =
    let exit = err_from_is_err_and c.from_residual.result c.from_residual.ensures.1 in
    let refused = c.in_err-_manner.ensures.refused in
    let run : CallRun = run_of_asked c.args.asked (state_run (g.C.Closure.state c.args.closure.now) (g.C.Closure.state c.args.closure.now)) in
    rw (exit.1, exit.2) (inl (subst (EndsAnyhow run) (sym (ap exit_of_option refused.1))
    (subst (SaysNoManner run.name run.texts) refused.1 c.in_err-_manner.ensures.none)))

pub returns-then-is_change-clause-ends : goal.returns-then-is_change-clause-ends
returns-then-is_change-clause-ends g c = inr (inl (record {
  changes = record {
    dry = c.is_flag_given-is_dry.result;
    is_dry = flag_said _ _ _ _ c.given.ensures c.is_flag_given-is_dry.ensures refl;
    is = sym c.is_change.ensures ∙ c.if-is_change.true;
  };
  is = refl;
}))

pub returns-clause-answers : goal.returns-clause-answers
returns-clause-answers g c =
    let run : CallRun = run_of_asked c.args.asked (state_run (g.C.Closure.state c.args.closure.now) (g.C.Closure.state c.args.closure.now)) in
    look_answered run c.shown.result (record {
      dry = c.is_flag_given-is_dry.result;
      is_dry = flag_said _ _ _ _ c.given.ensures c.is_flag_given-is_dry.ensures refl;
      is = sym c.is_change.ensures ∙ c.if-is_change.false;
    }) c.shown.ensures.answers

pub returns-clause-ends : goal.returns-clause-ends
returns-clause-ends g c =
    let run : CallRun = run_of_asked c.args.asked (state_run (g.C.Closure.state c.args.closure.now) (g.C.Closure.state c.args.closure.now)) in
    look_ended run c.shown.result (record {
      dry = c.is_flag_given-is_dry.result;
      is_dry = flag_said _ _ _ _ c.given.ensures c.is_flag_given-is_dry.ensures refl;
      is = sym c.is_change.ensures ∙ c.if-is_change.false;
    }) c.shown.ensures.ends
