use Rattle.state_calls.proofs.TryFacts.{see_other, sync_other}
use Rattle.state_calls.proofs.appends.sync_lines.Goals as goal

pub returns-in_err-try_if_due-clause-keeps : goal.returns-in_err-try_if_due-clause-keeps
returns-in_err-try_if_due-clause-keeps g c written first line kept = c.try_if_due.ensures.keeps written first line sync_other kept

pub returns-in_err-try_if_due-2-clause-keeps : goal.returns-in_err-try_if_due-2-clause-keeps
returns-in_err-try_if_due-2-clause-keeps g c written first line kept =
    c.try_if_due-2.ensures.keeps written first line see_other (c.try_if_due.ensures.keeps written first line sync_other kept)

pub returns-clause-acknowledged : goal.returns-clause-acknowledged
returns-clause-acknowledged g c written first line due has done disk may =
    c.is_done.ensures.acknowledged done written disk line
    (c.in_ok-try_if_due-2.ensures.due written first see_other (c.in_ok-try_if_due.ensures.due written first sync_other due) disk may) has

pub returns-clause-keeps : goal.returns-clause-keeps
returns-clause-keeps g c written first line kept =
    c.try_if_due-2.ensures.keeps written first line see_other (c.try_if_due.ensures.keeps written first line sync_other kept)
