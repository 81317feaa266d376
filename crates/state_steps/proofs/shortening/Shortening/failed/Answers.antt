use Rattle.state_steps.proofs.ShortenFacts.{shorten_failed}
use Rattle.state_steps.proofs.shortening.Shortening.failed.Goals as goal

pub returns-clause-keeps : goal.returns-clause-keeps
returns-clause-keeps c text disk left line keeps fails =
    shorten_failed text c.args.self.now.next disk left line keeps.due keeps.kept keeps.taken fails
