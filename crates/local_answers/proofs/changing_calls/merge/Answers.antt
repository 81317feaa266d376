use Rattle.std.proofs.Common.{inr}
use Rattle.fedbundle.specs.CommandRun.{state_run}
use Rattle.fedbundle.specs.Observe.{IsAsHeld}
use Rattle.local_answers.specs.Inside.AskedRun.{run_of_asked}
use Rattle.local_answers.specs.RequestRun.{CallRun, EndsMerge, change_run}
use Rattle.local_answers.proofs.ChangingFacts.{merge_call_ends, merge_called, merge_unchanged, not_within, on_any_error, within_room}
use Rattle.local_answers.proofs.changing_calls.merge.Goals as goal

pub returns-then-is_within-clause-answers : goal.returns-then-is_within-clause-answers
returns-then-is_within-clause-answers g c =
    let run : CallRun = run_of_asked c.args.asked (state_run (g.C.Closure.state c.args.closure.now) (g.C.Closure.state c.merge.new.closure)) in
    merge_called run c.merge.result (within_room run c.args.room c.requires (c.is_within.ensures.0 c.if-is_within.true)) c.merge.ensures.answers

pub returns-then-is_within-clause-ends : goal.returns-then-is_within-clause-ends
returns-then-is_within-clause-ends g c =
    let run : CallRun = run_of_asked c.args.asked (state_run (g.C.Closure.state c.args.closure.now) (g.C.Closure.state c.merge.new.closure)) in
    merge_call_ends run c.merge.result (within_room run c.args.room c.requires (c.is_within.ensures.0 c.if-is_within.true)) c.merge.ensures.ends

pub returns-then-is_within-clause-unchanged : goal.returns-then-is_within-clause-unchanged
returns-then-is_within-clause-unchanged g c =
    let state = state_run (g.C.Closure.state c.args.closure.now) (g.C.Closure.state c.merge.new.closure) in
    let run = change_run state c.args.asked.input.now in
    on_any_error c.merge.result (EndsMerge run) (IsAsHeld state) (merge_unchanged run) c.merge.ensures.ends

pub returns-else-is_within-clause-ends : goal.returns-else-is_within-clause-ends
returns-else-is_within-clause-ends g c = inr (record {
  room = c.args.room;
  is_room = c.requires;
  over = not_within c.is_within.result _ c.args.room c.is_within.ensures c.if-is_within.false;
})
