use Rattle.state_steps.proofs.BeginFacts.{begun_now}
use Rattle.state_steps.proofs.CarryFacts.{safe_now, safe_within}
use Rattle.state_steps.proofs.FoldFacts.{keeps_now}
use Rattle.state_steps.proofs.SaveFacts.{saved_now}
use Rattle.state_steps.proofs.laws.stops.Goals as goal

pub returns-clause-fold : goal.returns-clause-fold
returns-clause-fold c texts fold disk line keeps = keeps_now texts fold.next fold.is_whole disk line keeps.due keeps.kept

pub returns-clause-save : goal.returns-clause-save
returns-clause-save c texts save disk line keeps = saved_now texts save.stage disk line keeps.due keeps.kept

pub returns-clause-begin : goal.returns-clause-begin
returns-clause-begin c texts begin disk line keeps = begun_now texts begin.stage disk line keeps.due keeps.kept

pub returns-clause-carry : goal.returns-clause-carry
returns-clause-carry c texts carrying disk found line apart keeps left =
    safe_now texts carrying.stage disk found line apart keeps.due keeps.kept left

pub returns-clause-carry_within : goal.returns-clause-carry_within
returns-clause-carry_within c texts carrying disk found line apart keeps stops =
    safe_within texts carrying.stage disk found line apart keeps.due keeps.kept stops
