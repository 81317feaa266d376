use Rattle.std.proofs.Common.{◌∙◌}
use Rattle.replica_texts.proofs.IdListFacts.{at_bracket, no_bracket}
use Rattle.replica_texts.proofs.id_list.list_after.Goals as goal

pub returns-in-Some : goal.returns-in-Some
returns-in-Some c = λ inside rest plain e.
    let parts = at_bracket c.rest_after-rest.result.now inside rest c.in-Some.place plain (c.rest_after-rest.ensures _ e) c.in-Some.ensures in
    (c.split_at.ensures.front ∙ parts.0, c.split_at.ensures.back ∙ parts.1)

pub returns-in-None : goal.returns-in-None
returns-in-None c = λ inside rest plain e. absurd (no_bracket c.rest_after-rest.result.now inside rest (c.rest_after-rest.ensures _ e) c.in-None.ensures)
