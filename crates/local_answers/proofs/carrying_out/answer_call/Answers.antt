use Rattle.std.proofs.Common.{inl, inr}
use Rattle.local_answers.proofs.ChangingFacts.{silent_change, silent_with}
use Rattle.local_answers.proofs.carrying_out.answer_call.Goals as goal

pub returns-in-Ok-clause-answers : goal.returns-in-Ok-clause-answers
returns-in-Ok-clause-answers g c = inl c.in-Ok.ensures.answers

pub returns-in_ok-ended-in-Err-clause-answers : goal.returns-in_ok-ended-in-Err-clause-answers
returns-in_ok-ended-in-Err-clause-answers g c = inr (record {
  exit = c.in-Err.exit;
  ends = c.in-Err.ensures.ends;
  held = c.in-Err.ensures.unchanged;
  replied = c.in_ok-ended-in-Err.ensures;
})

pub returns-in_ok-ended-in-Err-clause-journals : goal.returns-in_ok-ended-in-Err-clause-journals
returns-in_ok-ended-in-Err-clause-journals g c =
    silent_change (g.C.Closure.state c.args.closure.now) (g.C.Closure.state c.carry_out.new.closure) _
    (silent_with _ _ _ _ c.in_ok-ended-in-Err.ensures.2) c.in-Err.ensures.unchanged
