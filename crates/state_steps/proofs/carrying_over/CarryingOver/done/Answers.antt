use Rattle.std.proofs.Common.{sym, subst}
use Rattle.state_steps.specs.Carries.{IsCarryDueOn, IsCarryKeptOn, after_carry_due}
use Rattle.state_steps.proofs.CarryFacts.{carry_due, carry_kept}
use Rattle.state_steps.proofs.carrying_over.CarryingOver.done.Goals as goal

pub returns-clause-keeps : goal.returns-clause-keeps
returns-clause-keeps c texts disk line keeps =
    let stage = c.args.self.now.stage in
    let after = after_carry_due texts stage disk in
    record {
      due = subst (λ s. IsCarryDueOn texts s after) (sym c.stage_after-self.ensures) (carry_due texts stage disk keeps.due);
      kept = subst (λ s. IsCarryKeptOn texts s after line) (sym c.stage_after-self.ensures)
          (carry_kept texts stage disk line keeps.kept);
    }
