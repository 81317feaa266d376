use Rattle.receipt_core.proofs.FloorFacts.{fitting_split, fits_before, accepted_through, all_through}
use Rattle.receipt_core.proofs.laws.floors.Goals as goal

pub returns-clause-fitting : goal.returns-clause-fitting
returns-clause-fitting c = fitting_split

pub returns-clause-accepted : goal.returns-clause-accepted
returns-clause-accepted c = accepted_through

pub returns-clause-held : goal.returns-clause-held
returns-clause-held c = λ m valid. accepted_through m m.held (all_through m valid)

pub returns-clause-higher : goal.returns-clause-higher
returns-clause-higher c = fits_before
