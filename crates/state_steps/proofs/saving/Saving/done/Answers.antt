use Rattle.std.proofs.Common.{sym, subst}
use Rattle.state_steps.specs.Saves.{IsSaveDueOn, IsSaveKeptOn, save_step}
use Rattle.state_steps.specs.Steps.{after_due}
use Rattle.state_steps.proofs.SaveFacts.{save_due, save_kept}
use Rattle.state_steps.proofs.saving.Saving.done.Goals as goal

pub returns-clause-keeps : goal.returns-clause-keeps
returns-clause-keeps c texts disk line keeps writes =
    let stage = c.args.self.now.stage in
    let after = after_due texts (save_step stage) disk in
    record {
      due = subst (λ s. IsSaveDueOn texts s after) (sym c.stage_after-self.ensures) (save_due texts stage disk keeps.due);
      kept = subst (λ s. IsSaveKeptOn texts s after line) (sym c.stage_after-self.ensures)
          (save_kept texts stage disk line keeps.due keeps.kept writes);
    }
