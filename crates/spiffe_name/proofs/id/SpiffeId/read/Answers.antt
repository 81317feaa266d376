use Rattle.std.specs.String.{string_bytes}
use Rattle.std.proofs.lemmas.Result.{err_from_is_err_and}
use Rattle.spiffe_name.specs.declared.error.NameError.TheVariants.{NoMemory}
use Rattle.spiffe_name.proofs.IdFacts.{one_id_error, IsIdText-copied}
use Rattle.spiffe_name.proofs.id.SpiffeId.read.Goals as goal

pub returns-in_err-domain-clause-complete : goal.returns-in_err-domain-clause-complete
returns-in_err-domain-clause-complete c = λ domain path id.
    let p = err_from_is_err_and c.from_residual.result c.from_residual.ensures.1 in
    rw (p.1, p.2) (one_id_error c.args.text.now c.in_err-domain.field-0.0 NoMemory c.in_err-domain.ensures.answer (domain, path, id))

pub invariant_of-result : goal.invariant_of-result
invariant_of-result c =
    let found = c.in_ok-domain.ensures.answer in
    IsIdText-copied c.args.text.now c.in_ok-domain.domain.now found.0 (string_bytes c.in_ok-text.text)
    c.in_ok-domain-2.domain found.1 c.in_ok-text.ensures.ok c.in_ok-domain-2.ensures.text

pub returns-clause-answer : goal.returns-clause-answer
returns-clause-answer c = (c.in_ok-text.ensures.ok, invariant_of-result c)
