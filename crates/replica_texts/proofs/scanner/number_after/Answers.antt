use Rattle.std.proofs.Common.{decimal}
use Rattle.replica_texts.proofs.ScanFacts.{digits-decimal}
use Rattle.replica_texts.proofs.scanner.number_after.Goals as goal

pub returns-clause-right : goal.returns-clause-right
returns-clause-right c = λ n stop more few none e.
    let parts = c.split_digits.ensures (decimal n) stop more (digits-decimal n few) none (c.rest_after.ensures _ e) in
    (c.number_of.ensures.right n few parts.0, parts.1)
