-- If the offers are too many to count, some receipt was copied.
use Rattle.std.proofs.Common.{length, ap, arith}
use Rattle.std.proofs.lemmas.Result.{err_from_is_err_and}
use Rattle.closure_parts.specs.Held.{meaning_of}
use Rattle.closure_parts.proofs.MergeFacts.{copies_new}
use Rattle.closure_parts.proofs.copies.copy_share.Goals as goal

pub returns-in_err-try_reserve-in-None : goal.returns-in_err-try_reserve-in-None
returns-in_err-try_reserve-in-None c =
    let p = err_from_is_err_and c.from_residual-in_err-try_reserve-in-None.result c.from_residual-in_err-try_reserve-in-None.ensures.1 in
    rw p.1
    (copies_new (meaning_of c.args.held.now) (meaning_of c.args.other.now) c.in_ok-copies.copies.items c.in_ok-copies.ensures
    (omega (arith, c.in-None.ensures, ap length c.deref.ensures.value)))
