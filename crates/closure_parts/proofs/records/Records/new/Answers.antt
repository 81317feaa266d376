use Rattle.std.proofs.Common.{sym, subst, arith, ◌≤◌}
use Rattle.std.specs.Vec.{vec_capacity}
use Rattle.closure_parts.specs.Records.{AreRecords}
use Rattle.closure_parts.proofs.RecordFacts.{no_records}
use Rattle.closure_parts.proofs.records.Records.new.Goals as goal

pub invariant_of-result : goal.invariant_of-result
invariant_of-result c =
    let room : c.args.limit ≤ vec_capacity c.in_ok-with_capacity.field-0 = omega (arith, c.in_ok-with_capacity.ensures.exact) in
    subst (λ xs. AreRecords (record { records = xs; limit = c.args.limit }) (vec_capacity c.in_ok-with_capacity.field-0))
    (sym c.in_ok-with_capacity.ensures.items) (no_records c.args.limit (vec_capacity c.in_ok-with_capacity.field-0) room)
