use Rattle.std.proofs.Common.{◌+◌, ◌<◌, ◌^◌, arith, length, inl, ap}
use Rattle.replica_core.proofs.LentGiveFacts.{few-lacking}
use Rattle.replica_core.proofs.answering.answer.Goals as goal

pub count-requires-clause-fits : goal.count-requires-clause-fits
count-requires-clause-fits g c =
    let m = (g.C.Closure.state c.args.closure.now).meaning in
    let few = few-lacking m c.args.have.now.bucket c.args.have.now.ids c.config.ensures.valid in
    let same = ap length c.lacking.ensures in
    let within : 0 + length c.lacking.result < 2 ^ 64 = omega (arith, few, same) in
    inl within
