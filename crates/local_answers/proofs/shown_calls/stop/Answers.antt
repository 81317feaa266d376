use Rattle.std.proofs.Common.{[], inl, refl, subst}
use Rattle.std.proofs.lemmas.Result.{err_from_is_err_and}
use Rattle.local_answers.specs.RequestRun.{IsReplied}
use Rattle.local_answers.proofs.shown_calls.stop.Goals as goal

pub returns-in_err-reply-clause-ends : goal.returns-in_err-reply-clause-ends
returns-in_err-reply-clause-ends g c =
    let exit = err_from_is_err_and c.from_residual.result c.from_residual.ensures.1 in
    rw (exit.1, exit.2) (inl tt)

pub returns-clause-answers : goal.returns-clause-answers
returns-clause-answers g c =
    let with = subst (λ l. IsReplied c.in_ok-reply.reply l []) c.new.ensures.items c.in_ok-reply.ensures in
    record {
      head = with.head;
      output = with.output;
      errors = with.errors;
      status = with.status;
      unjournalled = with.unjournalled;
      ends = refl;
    }
