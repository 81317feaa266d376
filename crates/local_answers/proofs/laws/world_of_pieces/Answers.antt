use Rattle.local_answers.proofs.ChangeEventFacts.{below-all}
use Rattle.local_answers.proofs.PieceEventFacts.{last-in-world, pieces-in-world}
use Rattle.local_answers.proofs.laws.world_of_pieces.Goals as goal

pub returns-clause-grows : goal.returns-clause-grows
returns-clause-grows c m entries = (below-all entries m).part

pub returns-clause-pieces : goal.returns-clause-pieces
returns-clause-pieces c = pieces-in-world

pub returns-clause-last_piece : goal.returns-clause-last_piece
returns-clause-last_piece c = last-in-world
