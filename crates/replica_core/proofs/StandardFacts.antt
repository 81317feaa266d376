-- Sets of receipts and records, said of the definitions: a slip in one of these does not check.
use Rattle.std.proofs.Common.{◌≡◌, refl}
use Rattle.replica_core.specs.State.{joined, no_state}

-- Nothing is gained from nothing.
pub joined_with_nothing : joined no_state no_state ≡ no_state
joined_with_nothing = refl
