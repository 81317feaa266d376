use Rattle.std.proofs.Common.{Err, Ok, ap, inl, inr, refl}
use Rattle.std.proofs.lemmas.Result.{err_from_is_err_and}
use Rattle.command_exits.specs.Exits.{exit_of_option}
use Rattle.fedbundle.proofs.ShownCallFacts.{refused_words}
use Rattle.fedbundle.proofs.shown.report.Goals as goal

pub returns-in_err-form : goal.returns-in_err-form
returns-in_err-form g c =
    let exit = err_from_is_err_and c.from_residual.result c.from_residual.ensures.1 in
    let refused = c.in_err-form.ensures.refused in
    rw (exit.1, exit.2) (inl (refused_words _ _ _ (ap exit_of_option refused.0, rw c.given.ensures at refused.1) (refl, refl)))

pub returns-in_err-report_in : goal.returns-in_err-report_in
returns-in_err-report_in g c =
    let exit = err_from_is_err_and c.from_residual-in_err-report_in.result c.from_residual-in_err-report_in.ensures.1 in
    rw (exit.1, exit.2) (inr (record {
      form = c.in_ok-form.form;
      is_form = rw c.given.ensures at c.in_ok-form.ensures.ok;
      answer = Err c.in_err-report_in.field-0.0;
      runs = c.in_err-report_in.ensures;
      is = refl;
    }))

pub returns : goal.returns
returns g c = inr (record {
  form = c.in_ok-form.form;
  is_form = rw c.given.ensures at c.in_ok-form.ensures.ok;
  answer = Ok tt;
  runs = c.in_ok-report_in.ensures;
  is = refl;
})
