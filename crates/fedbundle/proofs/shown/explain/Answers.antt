use Rattle.std.proofs.Common.{Err, Ok, inl, inr, refl, subst, sym, ap, ◌∙◌, Some}
use Rattle.std.proofs.lemmas.Result.{err_from_is_err_and}
use Rattle.spiffe_name.specs.TrustDomain.{IsDomainText}
use Rattle.command_exits.specs.Exits.{exit_of_option}
use Rattle.fedbundle.proofs.ShownCallFacts.{refused_words}
use Rattle.fedbundle.proofs.shown.explain.Goals as goal

pub returns-in_err-wanted : goal.returns-in_err-wanted
returns-in_err-wanted g c =
    let exit = err_from_is_err_and c.from_residual.result c.from_residual.ensures.1 in
    let usage = c.in_err-wanted.ensures.usage in
    rw (exit.1, exit.2) (inl (refused_words _ _ _ (inl (inl (record { lacks = usage.1; is = ap exit_of_option usage.0 }))) (refl, refl), (refl, refl)))

pub returns-in_err-domain : goal.returns-in_err-domain
returns-in_err-domain g c =
    let exit = err_from_is_err_and c.from_residual-in_err-domain.result c.from_residual-in_err-domain.ensures.1 in
    let refused = c.in_err-domain.ensures.refused in
    rw (exit.1, exit.2) (inl (
      refused_words _ _ _ (inl (inr (record {
        text = c.in_ok-wanted.field-0.now;
        is_said = c.in_ok-wanted.ensures.ok;
        why = refused.0;
        refused = refused.2;
        is = refused.1;
      }))) (refl, refl),
      (refl, refl),
    ))

pub returns-in_err-form : goal.returns-in_err-form
returns-in_err-form g c =
    let exit = err_from_is_err_and c.from_residual-in_err-form.result c.from_residual-in_err-form.ensures.1 in
    let refused = c.in_err-form.ensures.refused in
    rw (exit.1, exit.2) (inl (
      refused_words _ _ _ (inr (ap exit_of_option refused.0, rw (c.given.ensures, c.given-2.ensures) at refused.1)) (refl, refl),
      (refl, refl),
    ))

pub returns-in_err-is_written : goal.returns-in_err-is_written
returns-in_err-is_written g c =
    let exit = err_from_is_err_and c.from_residual-in_err-is_written.result c.from_residual-in_err-is_written.ensures.1 in
    let read = c.in_ok-domain.ensures.ok in
    rw (exit.1, exit.2) (inr (record {
      domain = c.in_ok-domain.domain;
      is_domain = c.in_ok-wanted.ensures.ok ∙ ap Some (sym read.0);
      is_name = subst IsDomainText (sym read.0) read.1;
      form = c.in_ok-form.form;
      is_form = rw (c.given.ensures, c.given-2.ensures) at c.in_ok-form.ensures.ok;
      answer = Err c.in_err-is_written.field-0.0;
      runs = c.in_err-is_written.ensures;
      is = refl;
    }))

pub returns : goal.returns
returns g c =
    let read = c.in_ok-domain.ensures.ok in
    inr (record {
      domain = c.in_ok-domain.domain;
      is_domain = c.in_ok-wanted.ensures.ok ∙ ap Some (sym read.0);
      is_name = subst IsDomainText (sym read.0) read.1;
      form = c.in_ok-form.form;
      is_form = rw (c.given.ensures, c.given-2.ensures) at c.in_ok-form.ensures.ok;
      answer = Ok c.in_ok-is_written.is_written;
      runs = c.in_ok-is_written.ensures;
      is = c.written_or.ensures;
    })
