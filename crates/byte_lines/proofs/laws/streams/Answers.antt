use Rattle.byte_lines.proofs.StreamFacts.{lines_of-line, lines_of-rest}
use Rattle.byte_lines.proofs.laws.streams.Goals as goal

pub returns-clause-line : goal.returns-clause-line
returns-clause-line c = lines_of-line

pub returns-clause-rest : goal.returns-clause-rest
returns-clause-rest c = lines_of-rest
