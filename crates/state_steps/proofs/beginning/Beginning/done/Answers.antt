use Rattle.std.proofs.Common.{sym, subst}
use Rattle.state_steps.specs.Begins.{IsBeginDueOn, IsBeginKeptOn, begin_change}
use Rattle.state_steps.specs.Steps.{after_due}
use Rattle.state_steps.proofs.BeginFacts.{begin_due, begin_kept}
use Rattle.state_steps.proofs.beginning.Beginning.done.Goals as goal

pub returns-clause-keeps : goal.returns-clause-keeps
returns-clause-keeps c texts disk line keeps writes =
    let stage = c.args.self.now.stage in
    let after = after_due texts (begin_change stage) disk in
    record {
      due = subst (λ s. IsBeginDueOn texts s after) (sym c.stage_after-self.ensures) (begin_due texts stage disk keeps.due);
      kept = subst (λ s. IsBeginKeptOn texts s after line) (sym c.stage_after-self.ensures)
          (begin_kept texts stage disk line keeps.due keeps.kept writes);
    }
