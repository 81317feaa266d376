use Rattle.state_steps.proofs.CarryFacts.{begins_save, done_in_save, failed_in_save}
use Rattle.state_steps.proofs.laws.saves.Goals as goal

pub returns-clause-begins : goal.returns-clause-begins
returns-clause-begins c text disk = begins_save text disk

pub returns-clause-done : goal.returns-clause-done
returns-clause-done c texts save start disk due before = done_in_save texts save.stage start disk due before

pub returns-clause-failed : goal.returns-clause-failed
returns-clause-failed c texts save start disk left due before fails =
    failed_in_save texts save.stage start disk left due before fails
