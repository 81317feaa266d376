use Rattle.state_steps.proofs.LineCutFacts.{cut_whole}
use Rattle.state_steps.proofs.line_cuts.CountedLines.whole.Goals as goal

pub returns-clause-cut : goal.returns-clause-cut
returns-clause-cut c text counted = cut_whole text c.args.self.now.whole counted.whole
