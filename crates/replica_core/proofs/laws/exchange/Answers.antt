use Rattle.std.proofs.Common.{true, false}
use Rattle.replica_core.proofs.WorldJoins.{joins}
use Rattle.replica_core.proofs.WorldLawFacts.{exchanged}
use Rattle.replica_core.proofs.laws.exchange.Goals as goal

pub returns-clause-exchanged : goal.returns-clause-exchanged
returns-clause-exchanged c = exchanged true joins

pub returns-clause-receipts : goal.returns-clause-receipts
returns-clause-receipts c = exchanged false joins
