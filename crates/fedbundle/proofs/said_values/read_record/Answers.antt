use Rattle.std.proofs.Common.{◌∙◌, Some, ap, inl, inr, subst, sym}
use Rattle.std.proofs.lemmas.Result.{err_from_is_err_and}
use Rattle.command_exits.specs.Exits.{exit_of_option}
use Rattle.spiffe_name.specs.TrustDomain.{IsDomainText}
use Rattle.fedbundle.proofs.said_values.read_record.Goals as goal

pub returns-in_err-wanted-clause-ends : goal.returns-in_err-wanted-clause-ends
returns-in_err-wanted-clause-ends c =
    let exit = err_from_is_err_and c.from_residual.result c.from_residual.ensures.1 in
    rw (exit.1, exit.2) (inl (inl (record { lacks = c.in_err-wanted.ensures.usage.1; is = ap exit_of_option c.in_err-wanted.ensures.usage.0 })))

pub returns-in_err-domain-clause-ends : goal.returns-in_err-domain-clause-ends
returns-in_err-domain-clause-ends c =
    let exit = err_from_is_err_and c.from_residual-in_err-domain.result c.from_residual-in_err-domain.ensures.1 in
    let refused = c.in_err-domain.ensures.refused in
    rw (exit.1, exit.2) (inl (inr (record {
      text = c.in_ok-wanted.field-0.now;
      is_said = c.in_ok-wanted.ensures.ok;
      why = refused.0;
      refused = refused.2;
      is = refused.1;
    })))

pub returns-in_err-wanted-2-clause-ends : goal.returns-in_err-wanted-2-clause-ends
returns-in_err-wanted-2-clause-ends c =
    let exit = err_from_is_err_and c.from_residual-in_err-wanted-2.result c.from_residual-in_err-wanted-2.ensures.1 in
    rw (exit.1, exit.2) (inr (inl (record { lacks = c.in_err-wanted-2.ensures.usage.1; is = ap exit_of_option c.in_err-wanted-2.ensures.usage.0 })))

pub returns-in_err-key-clause-ends : goal.returns-in_err-key-clause-ends
returns-in_err-key-clause-ends c =
    let exit = err_from_is_err_and c.from_residual-in_err-key.result c.from_residual-in_err-key.ensures.1 in
    rw (exit.1, exit.2) (inr (inr (record {
      digits = c.in_ok-wanted-2.field-0.now;
      is_said = c.in_ok-wanted-2.ensures.ok;
      none = c.in_err-key.ensures.none;
      is = ap exit_of_option c.in_err-key.ensures.refused;
    })))

pub returns-clause-says : goal.returns-clause-says
returns-clause-says c =
    let read = c.in_ok-domain.ensures.ok in
    record {
      domain = c.in_ok-wanted.ensures.ok ∙ ap Some (sym read.0);
      form = subst IsDomainText (sym read.0) read.1;
      digits = c.in_ok-wanted-2.field-0.now;
      key = c.in_ok-wanted-2.ensures.ok;
      is_key = c.in_ok-key.ensures.lower;
    }
