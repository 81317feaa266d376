use Rattle.std.proofs.Common.{subst, IfOk}
use Rattle.local_answers.specs.RequestRun.{IsWith}
use Rattle.local_answers.proofs.reply.Reply.done.Goals as goal

pub returns : goal.returns
returns c = subst (λ l. IfOk c.of_streams.result (λ reply. IsWith reply c.args.output.items l 0)) c.new.ensures.items c.of_streams.ensures
