use Rattle.std.proofs.Common.{refl}
use Rattle.std.proofs.lemmas.Result.{err_from_is_err_and}
use Rattle.replica_c_calls.proofs.MemoryFacts.{absorbing_refused, answer_refused}
use Rattle.replica_c_calls.proofs.message_bytes.absorb_bytes.Goals as goal

pub returns-in_err-give : goal.returns-in_err-give
returns-in_err-give g c =
    let exit = err_from_is_err_and c.from_residual.result c.from_residual.ensures.1 in
    rw (exit.1, exit.2)
    (record { cause = answer_refused (g.C.Closure.state c.args.closure.now) c.args.answered.now c.in_err-give.field-0.0 c.in_err-give.ensures; same = refl })

pub returns-in_err-absorb : goal.returns-in_err-absorb
returns-in_err-absorb g c =
    let exit = err_from_is_err_and c.from_residual-in_err-absorb.result c.from_residual-in_err-absorb.ensures.1 in
    rw (exit.1, exit.2)
    (record {
      cause = absorbing_refused (g.C.Closure.state c.args.closure.now) c.args.answered.now c.in_err-absorb.field-0.0
          (record { give = c.in_ok-give.give; reads = c.in_ok-give.ensures; cause = c.in_err-absorb.ensures.cause });
      same = c.in_err-absorb.ensures.same;
    })
