use Rattle.std.proofs.Common.{inl, inr}
use Rattle.local_answers.proofs.looking.look_by_call.Goals as goal

pub returns-in-Ok-clause-answers : goal.returns-in-Ok-clause-answers
returns-in-Ok-clause-answers g c = inl c.in-Ok.ensures.answers

pub returns-in_ok-ended-in-Err-clause-answers : goal.returns-in_ok-ended-in-Err-clause-answers
returns-in_ok-ended-in-Err-clause-answers g c = inr (record {
  exit = c.in-Err.exit;
  ends = c.in-Err.ensures.ends;
  replied = c.in_ok-ended-in-Err.ensures;
})
