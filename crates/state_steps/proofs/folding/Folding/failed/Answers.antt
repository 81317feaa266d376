use Rattle.state_steps.proofs.FoldFacts.{failed_keeps}
use Rattle.state_steps.proofs.folding.Folding.failed.Goals as goal

pub returns-clause-keeps : goal.returns-clause-keeps
returns-clause-keeps c texts disk left line keeps fails =
    failed_keeps texts c.args.self.now.next c.args.self.now.is_whole disk left line keeps.due keeps.kept fails
