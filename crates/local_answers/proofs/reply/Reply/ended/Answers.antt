use Rattle.std.proofs.Common.{◌≡◌, [], subst}
use Rattle.std.proofs.lemmas.Result.{IfOk-weaker}
use Rattle.local_answers.specs.RequestRun.{IsWith}
use Rattle.local_answers.proofs.reply.Reply.ended.Goals as goal

pub returns : goal.returns
returns c =
    let line = c.in_ok-errors.errors.items in
    let empty : c.new.result.items ≡ [] = cc in
    IfOk-weaker c.of_streams.result _ _
    (λ reply with. (
      line,
      c.in_ok-errors.ensures,
      subst (λ status. IsWith reply [] line status) c.exit_status.ensures
          (subst (λ output. IsWith reply output line c.exit_status.result) empty with),
    ))
    c.of_streams.ensures
