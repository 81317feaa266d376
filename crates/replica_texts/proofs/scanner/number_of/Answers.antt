use Rattle.std.proofs.Common.{sym, ◌∙◌}
use Rattle.std.proofs.lemmas.Fmt.{decimal_injective}
use Rattle.replica_texts.proofs.scanner.number_of.Goals as goal

pub returns-in-Some-clause-right : goal.returns-in-Some-clause-right
returns-in-Some-clause-right c = λ n few e. decimal_injective c.in-Some.number n c.in-Some.ensures.0 few (sym c.in-Some.ensures.1 ∙ e)
