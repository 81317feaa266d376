use Rattle.replica_core.specs.declared.error.SyncError.TheVariants.{NoMemory}
use Rattle.replica_sync.specs.Inside.AnswerSteps.{RefusesAnswerLine}
use Rattle.replica_sync.specs.Inside.Waiting.{held_with}
use Rattle.replica_sync.proofs.NewEntryFacts.{refused_with}
use Rattle.replica_sync.proofs.PullStepFacts.{no_number}
use Rattle.replica_sync.proofs.answer_lines.AnswerLines.take.Goals as goal

pub returns-in_err-number-clause-refused : goal.returns-in_err-number-clause-refused
returns-in_err-number-clause-refused g c =
    let m = held_with c.args.news.now (g.C.Closure.state c.args.closure.now).meaning in
    refused_with c.from_residual.result (RefusesAnswerLine m c.args.self.now c.args.text.now) NoMemory
    c.from_residual.ensures.1 (no_number m c.args.self.now c.args.text.now c.args.self.now.some)
