use Rattle.std.proofs.Common.{◌≡◌, [], Some, ap, inl, rules, sym, w64}
use Rattle.std.proofs.lemmas.Int.{to_z-of_z}
use Rattle.std.proofs.lemmas.Result.{err_from_is_err_and}
use Rattle.fedbundle.specs.CommandRun.{state_run}
use Rattle.local_answers.specs.Inside.AskedRun.{run_of_asked}
use Rattle.local_answers.specs.RequestRun.{CallRun}
use Rattle.local_answers.proofs.ShownFacts.{runs_at, shown_done, shown_ended}
use Rattle.local_answers.proofs.shown_calls.shown.Goals as goal

pub returns-in_err-of_streams-in-Ok-clause-ends : goal.returns-in_err-of_streams-in-Ok-clause-ends
returns-in_err-of_streams-in-Ok-clause-ends g c =
    let exit = err_from_is_err_and c.from_residual.result c.from_residual.ensures.1 in
    rw (exit.1, exit.2) (inl tt)

pub returns-in_ok-of_streams-in-Ok-clause-answers : goal.returns-in_ok-of_streams-in-Ok-clause-answers
returns-in_ok-of_streams-in-Ok-clause-answers g c =
    let empty : c.new-output.result.writer.items ≡ [] = cc in
    let silent : c.new-line_errors.result.writer.items ≡ [] = cc in
    let source : c.new-source.result.reader.now ≡ c.args.asked.input.now = cc in
    let is : c.into_inner-text.result.items ≡ c.run_shown.new.sink.writer.items = cc in
    let said : c.into_inner-with_it.result.items ≡ c.run_shown.new.line_errors.writer.items = cc in
    let run : CallRun = run_of_asked c.args.asked (state_run (g.C.Closure.state c.args.closure.now) (g.C.Closure.state c.args.closure.now)) in
    shown_done run _ _ _ _ _ _ (ap Some source) (ap Some empty) (ap Some (sym is)) (ap Some silent) (ap Some (sym said))
    (runs_at run _ _ _ _ (to_z-of_z w64 c.args.asked.running.now.moment (search rules)) c.in-Ok.ensures)
    c.in_ok-of_streams-in-Ok.ensures

pub returns-in-Err-clause-ends : goal.returns-in-Err-clause-ends
returns-in-Err-clause-ends g c =
    let empty : c.new-output.result.writer.items ≡ [] = cc in
    let silent : c.new-line_errors.result.writer.items ≡ [] = cc in
    let source : c.new-source.result.reader.now ≡ c.args.asked.input.now = cc in
    let run : CallRun = run_of_asked c.args.asked (state_run (g.C.Closure.state c.args.closure.now) (g.C.Closure.state c.args.closure.now)) in
    shown_ended run _ _ _ _ c.over_memory.ensures (ap Some source) (ap Some empty) (ap Some silent)
    (runs_at run _ _ _ _ (to_z-of_z w64 c.args.asked.running.now.moment (search rules)) c.in-Err.ensures)
