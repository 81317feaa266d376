use Rattle.local_answers.proofs.ChangeEventFacts.{answers-in-world, asks-in-world, change-in-world, only-run, piece-in-world, request-in-world}
use Rattle.local_answers.proofs.laws.world_of_changes.Goals as goal

pub returns-clause-changes : goal.returns-clause-changes
returns-clause-changes c = change-in-world c.effects.ensures.takes c.effects.ensures.revokes

pub returns-clause-requested : goal.returns-clause-requested
returns-clause-requested c = request-in-world c.effects.ensures.takes c.effects.ensures.revokes

pub returns-clause-pulled : goal.returns-clause-pulled
returns-clause-pulled c = piece-in-world c.effects.ensures.takes c.effects.ensures.revokes

pub returns-clause-elsewhere : goal.returns-clause-elsewhere
returns-clause-elsewhere c rules entries i j w apart = (only-run rules entries i w).others j apart

pub returns-clause-silent : goal.returns-clause-silent
returns-clause-silent c rules entries i w = ((only-run rules entries i w).sent, (only-run rules entries i w).saved)

pub returns-clause-asks : goal.returns-clause-asks
returns-clause-asks c = asks-in-world

pub returns-clause-answers : goal.returns-clause-answers
returns-clause-answers c = answers-in-world
