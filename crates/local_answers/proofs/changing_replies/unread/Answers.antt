use Rattle.local_answers.proofs.ChangingFacts.{exit_of_sync}
use Rattle.local_answers.proofs.changing_replies.unread.Goals as goal

pub returns-in_default : goal.returns-in_default
returns-in_default c = exit_of_sync _ c.in_default.not-Io
