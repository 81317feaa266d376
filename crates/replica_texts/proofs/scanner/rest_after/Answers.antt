use Rattle.std.proofs.Common.{sym, ◌∙◌}
use Rattle.std.proofs.lemmas.List.{append_cancel_left}
use Rattle.replica_texts.proofs.scanner.rest_after.Goals as goal

pub returns-in-Some : goal.returns-in-Some
returns-in-Some c = λ rest e. append_cancel_left c.args.label.now _ rest (sym c.in-Some.ensures ∙ e)

pub returns-in-None : goal.returns-in-None
returns-in-None c = λ rest e. absurd (c.in-None.ensures rest e)
