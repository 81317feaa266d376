use Rattle.std.proofs.Common.{sym, subst}
use Rattle.state_steps.specs.Folds.{IsDueOn, IsKeptOn}
use Rattle.state_steps.specs.Steps.{after_due}
use Rattle.state_steps.proofs.FoldFacts.{done_due, done_kept}
use Rattle.state_steps.proofs.folding.Folding.done.Goals as goal

pub returns-clause-keeps : goal.returns-clause-keeps
returns-clause-keeps c texts disk line keeps writes =
    let next = c.args.self.now.next in
    let whole = c.args.self.now.is_whole in
    let after = after_due texts next disk in
    record {
      due = subst (λ step. IsDueOn texts step after) (sym c.step_after-self.ensures) (done_due texts next whole disk keeps.due);
      kept = subst (λ step. IsKeptOn texts step whole after line) (sym c.step_after-self.ensures)
          (done_kept texts next whole disk line keeps.due keeps.kept writes);
    }
