use Rattle.std.proofs.Common.{ap, subst}
use Rattle.command_line.specs.OptionTexts.{SaysNoManner}
use Rattle.fedbundle.specs.SaidValues.{texts_of_call}
use Rattle.std.proofs.lemmas.Result.{err_from_is_err_and}
use Rattle.command_exits.specs.Exits.{exit_of_option}
use Rattle.command_exits.specs.declared.exits.Exit.TheVariants.{BadNumber}
use Rattle.fedbundle.specs.CommandRun.{state_run}
use Rattle.local_answers.specs.Inside.AskedRun.{run_of_asked}
use Rattle.local_answers.specs.RequestRun.{CallRun}
use Rattle.local_answers.proofs.ChangingFacts.{none_changed}
use Rattle.local_answers.proofs.ShownFacts.{answers_as, answers_shown, anyhow, ends_as, ends_shown}
use Rattle.local_answers.proofs.carrying_out.carry_out.Goals as goal

pub returns-in_err-most_bytes-clause-ends : goal.returns-in_err-most_bytes-clause-ends
returns-in_err-most_bytes-clause-ends g c =
    let exit = err_from_is_err_and c.from_residual.result c.from_residual.ensures.1 in
    let refused = c.in_err-most_bytes.ensures.refused in
    let texts = texts_of_call c.args.asked.call.now in
    rw (exit.1, exit.2) (anyhow _ _ _ (BadNumber refused.0) (ap exit_of_option refused.1)
    (subst (SaysNoManner c.args.asked.call.now.name texts) refused.1 c.in_err-most_bytes.ensures.none))

pub returns-in-Observe-clause-answers : goal.returns-in-Observe-clause-answers
returns-in-Observe-clause-answers g c = answers_as _ _ _ _ c.in-Observe.is c.observe.ensures.answers

pub returns-in-Observe-clause-ends : goal.returns-in-Observe-clause-ends
returns-in-Observe-clause-ends g c =
    let run : CallRun = run_of_asked c.args.asked (state_run (g.C.Closure.state c.args.closure.now) (g.C.Closure.state c.observe.new.closure)) in
    ends_as _ _ run _ c.in-Observe.is c.observe.ensures.ends

pub returns-in-Merge-clause-answers : goal.returns-in-Merge-clause-answers
returns-in-Merge-clause-answers g c = answers_as _ _ _ _ c.in-Merge.is c.merge.ensures.answers

pub returns-in-Merge-clause-ends : goal.returns-in-Merge-clause-ends
returns-in-Merge-clause-ends g c =
    let run : CallRun = run_of_asked c.args.asked (state_run (g.C.Closure.state c.args.closure.now) (g.C.Closure.state c.merge.new.closure)) in
    ends_as _ _ run _ c.in-Merge.is c.merge.ensures.ends

pub returns-in-Distrust-clause-answers : goal.returns-in-Distrust-clause-answers
returns-in-Distrust-clause-answers g c = answers_as _ _ _ _ c.in-Distrust.is c.distrust.ensures.answers

pub returns-in-Distrust-clause-ends : goal.returns-in-Distrust-clause-ends
returns-in-Distrust-clause-ends g c =
    let run : CallRun = run_of_asked c.args.asked (state_run (g.C.Closure.state c.args.closure.now) (g.C.Closure.state c.distrust.new.closure)) in
    ends_as _ _ run _ c.in-Distrust.is c.distrust.ensures.ends

pub returns-in-Stop-clause-answers : goal.returns-in-Stop-clause-answers
returns-in-Stop-clause-answers g c = answers_as _ _ _ _ c.in-Stop.is c.stop.ensures.answers

pub returns-in-Stop-clause-ends : goal.returns-in-Stop-clause-ends
returns-in-Stop-clause-ends g c =
    let state = g.C.Closure.state c.args.closure.now in
    let run : CallRun = run_of_asked c.args.asked (state_run state state) in
    ends_as _ _ run _ c.in-Stop.is c.stop.ensures.ends

pub returns-in-Stop-clause-journals : goal.returns-in-Stop-clause-journals
returns-in-Stop-clause-journals g c = none_changed (g.C.Closure.state c.args.closure.now) c.stop.result c.stop.ensures.silent

pub returns-in_default-clause-answers : goal.returns-in_default-clause-answers
returns-in_default-clause-answers g c =
    answers_shown _ _ _ c.in_default.not-Observe c.in_default.not-Merge c.in_default.not-Distrust c.in_default.not-Stop c.shown.ensures.answers

pub returns-in_default-clause-ends : goal.returns-in_default-clause-ends
returns-in_default-clause-ends g c =
    let state = g.C.Closure.state c.args.closure.now in
    let run : CallRun = run_of_asked c.args.asked (state_run state state) in
    ends_shown _ run _ c.in_default.not-Observe c.in_default.not-Merge c.in_default.not-Distrust c.in_default.not-Stop c.shown.ensures.ends

pub returns-in_default-clause-journals : goal.returns-in_default-clause-journals
returns-in_default-clause-journals g c = none_changed (g.C.Closure.state c.args.closure.now) c.shown.result c.shown.ensures.silent
