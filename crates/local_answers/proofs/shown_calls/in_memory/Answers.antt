use Rattle.local_answers.proofs.ShownFacts.{exit_of_other}
use Rattle.local_answers.proofs.shown_calls.in_memory.Goals as goal

pub returns-in_default : goal.returns-in_default
returns-in_default c = exit_of_other _ c.in_default.not-Io
