use Rattle.state_steps.proofs.LineCutFacts.{feed_start, none_start}
use Rattle.state_steps.proofs.line_cuts.line_start.Goals as goal

pub returns-in-Some : goal.returns-in-Some
returns-in-Some c = feed_start c.args.bytes.now c.in-Some.feed c.in-Some.ensures

pub returns-in-None : goal.returns-in-None
returns-in-None c = none_start c.args.bytes.now c.in-None.ensures
