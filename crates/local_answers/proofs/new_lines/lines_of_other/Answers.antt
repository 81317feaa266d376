use Rattle.std.proofs.Common.{rules}
use Rattle.local_answers.proofs.NewLineFacts.{other_lines}
use Rattle.local_answers.proofs.new_lines.lines_of_other.Goals as goal

pub returns : goal.returns
returns g c = other_lines _ _ c.in_ok-lines.lines.text.items c.in_ok-records.records.items _ _ c.in_ok-lines.ensures c.in_ok-records.ensures
    (search rules)
