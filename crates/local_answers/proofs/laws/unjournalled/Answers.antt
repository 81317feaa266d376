use Rattle.std.proofs.Common.{◌∙◌, ap}
use Rattle.replica_core.specs.Absorbing.{with_entries}
use Rattle.local_answers.proofs.NewLineFacts.{no_entries}
use Rattle.local_answers.proofs.laws.unjournalled.Goals as goal

pub returns : goal.returns
returns c state journals =
    journals.meaning ∙ ap (λ es. with_entries es state.old.meaning) (no_entries journals.entries journals.lines.spelt)
