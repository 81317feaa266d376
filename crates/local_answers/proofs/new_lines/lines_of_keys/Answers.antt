use Rattle.local_answers.proofs.NewLineFacts.{lines_ended}
use Rattle.local_answers.proofs.new_lines.lines_of_keys.Goals as goal

pub returns : goal.returns
returns g c = lines_ended (g.C.Closure.state c.args.closure.now).meaning c.args.given.now c.as_slice.result.now c.new_keys_of.result
    c.as_slice.ensures.value c.new_keys_of.ensures
