use Rattle.std.proofs.Common.{Err, Ok, ap, inl, inr, refl}
use Rattle.std.proofs.lemmas.Result.{err_from_is_err_and}
use Rattle.command_exits.specs.Exits.{exit_of_option}
use Rattle.fedbundle.proofs.ShownCallFacts.{polls_as, refused_words}
use Rattle.fedbundle.proofs.shown.polls.Goals as goal

pub returns-in_err-form : goal.returns-in_err-form
returns-in_err-form g c =
    let exit = err_from_is_err_and c.from_residual.result c.from_residual.ensures.1 in
    let refused = c.in_err-form.ensures.refused in
    rw (exit.1, exit.2) (inl (refused_words _ _ _ (inl (ap exit_of_option refused.0, rw c.given.ensures at refused.1)) (refl, refl), (refl, refl)))

pub returns-in_err-wanted : goal.returns-in_err-wanted
returns-in_err-wanted g c =
    let exit = err_from_is_err_and c.from_residual-in_err-wanted.result c.from_residual-in_err-wanted.ensures.1 in
    let usage = c.in_err-wanted.ensures.usage in
    rw (exit.1, exit.2) (inl (refused_words _ _ _ (inr (inl (record { lacks = usage.1; is = ap exit_of_option usage.0 }))) (refl, refl), (refl, refl)))

pub returns-in_err-now : goal.returns-in_err-now
returns-in_err-now g c =
    let exit = err_from_is_err_and c.from_residual-in_err-now.result c.from_residual-in_err-now.ensures.1 in
    rw (exit.1, exit.2) (inl (
      refused_words _ _ _ (inr (inr (record {
        seconds = c.in_ok-wanted.field-0.now;
        is_said = c.in_ok-wanted.ensures.ok;
        none = c.in_err-now.ensures.refused.1;
        is = c.in_err-now.ensures.refused.0;
      }))) (refl, refl),
      (refl, refl),
    ))

pub returns-in_err-run_polls_in : goal.returns-in_err-run_polls_in
returns-in_err-run_polls_in g c =
    let exit = err_from_is_err_and c.from_residual-in_err-run_polls_in.result c.from_residual-in_err-run_polls_in.ensures.1 in
    rw (exit.1, exit.2) (inr (record {
      form = c.in_ok-form.form;
      is_form = rw c.given.ensures at c.in_ok-form.ensures.ok;
      seconds = c.in_ok-wanted.field-0.now;
      is_said = c.in_ok-wanted.ensures.ok;
      now = c.in_ok-now.now.nanosecond;
      is_now = c.in_ok-now.ensures.ok;
      answer = Err c.in_err-run_polls_in.field-0.0;
      runs = polls_as _ (g.C.Closure.state c.args.closure.now).meaning c.in_ok-now.now.nanosecond _ c.in_ok-form.form
          (Err c.in_err-run_polls_in.field-0.0) c.polls_form.ensures c.in_err-run_polls_in.ensures;
      is = refl;
    }))

pub returns : goal.returns
returns g c = inr (record {
  form = c.in_ok-form.form;
  is_form = rw c.given.ensures at c.in_ok-form.ensures.ok;
  seconds = c.in_ok-wanted.field-0.now;
  is_said = c.in_ok-wanted.ensures.ok;
  now = c.in_ok-now.now.nanosecond;
  is_now = c.in_ok-now.ensures.ok;
  answer = Ok tt;
  runs = rw c.polls_form.ensures at c.in_ok-run_polls_in.ensures;
  is = refl;
})
