use Rattle.std.proofs.Common.{inr, map, refl}
use Rattle.fedbundle.specs.CommandRun.{state_run}
use Rattle.command_line.specs.Checks.{RefusesWords}
use Rattle.fedbundle.specs.SaidValues.{texts_of_call}
use Rattle.local_answers.specs.RequestRun.{CallRun, call_run, change_run}
use Rattle.local_answers.proofs.ChangingFacts.{error_silent, said_of_words, silent_change, words_called}
use Rattle.local_answers.proofs.carrying_out.answer_request.Goals as goal

pub returns-in-Ok-clause-answers : goal.returns-in-Ok-clause-answers
returns-in-Ok-clause-answers g c =
    let run : CallRun = call_run c.in-Ok.call.name (texts_of_call c.in-Ok.call) c.args.running.now
    (change_run (state_run (g.C.Closure.state c.args.closure.now) (g.C.Closure.state c.answer_call.new.closure)) c.args.input.now) in
    words_called (map (λ w. w.now) c.args.words.now) run c.answer_call.result c.in-Ok.ensures c.answer_call.ensures.answers

pub returns-in_ok-reply_by_words-in-Err-clause-answers : goal.returns-in_ok-reply_by_words-in-Err-clause-answers
returns-in_ok-reply_by_words-in-Err-clause-answers g c =
    let words = map (λ w. w.now) c.args.words.now in
    inr (record {
      replied = said_of_words (λ e. RefusesWords _ words e) words words c.in-Err.error c.in_ok-reply_by_words-in-Err.field-0 refl
          (λ e at_fault. at_fault) (λ none. record { taken = none.taken; none = λ name texts calls. none.none name texts calls })
          (λ call flaw has. record { name = call.name; texts = texts_of_call call; call = has.0; is = has.1 })
          c.in-Err.ensures c.in_ok-reply_by_words-in-Err.ensures;
      held = refl;
    })

pub returns-in_ok-reply_by_words-in-Err-clause-journals : goal.returns-in_ok-reply_by_words-in-Err-clause-journals
returns-in_ok-reply_by_words-in-Err-clause-journals g c =
    let state = g.C.Closure.state c.args.closure.now in
    silent_change state state _ (error_silent _ _ c.in_ok-reply_by_words-in-Err.ensures) refl
