use Rattle.std.proofs.Common.{ℕ, refl, rules}
use Rattle.replica_c_calls.specs.Changes.{HasBadGive}
use Rattle.replica_c_calls.proofs.MemoryFacts.{give_refused, no_fault}
use Rattle.replica_c_calls.proofs.message_bytes.give_of_bytes.Goals as goal

pub returns-in-Err : goal.returns-in-Err
returns-in-Err c =
    let bad : HasBadGive c.args.bytes.now c.in-Err.why = search rules in
    give_refused c.args.bytes.now c.in-Err.why (no_fault ℕ c.in-Err.why _ _ refl refl c.in-Err.ensures.fault) bad
