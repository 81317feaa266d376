use Rattle.std.proofs.Common.{subst}
use Rattle.std.proofs.lemmas.Result.{on_ok_weaker}
use Rattle.fed_config.specs.Configuration.{IsConfiguration}
use Rattle.replica_core.proofs.GrownFacts.{unfit-taken, next-taken, next-refused}
use Rattle.replica_core.proofs.grown_closures.offer_receipt.Goals as goal

pub returns-in-Ok-clause-unfit : goal.returns-in-Ok-clause-unfit
returns-in-Ok-clause-unfit g c =
    unfit-taken (g.C.Closure.state c.args.closure.now) (g.C.Closure.state c.take.new.self) c.args.receipt.now
    c.in_ok-try_clone.field-0 c.in-Ok.field-0 c.in_ok-try_clone.ensures c.in-Ok.ensures

pub returns-in-Ok-clause-next : goal.returns-in-Ok-clause-next
returns-in-Ok-clause-next g c =
    λ later. next-taken (g.C.Closure.state c.args.closure.now) (g.C.Closure.state c.take.new.self) c.args.receipt.now
    c.in_ok-try_clone.field-0 c.in-Ok.field-0 later c.in_ok-try_clone.ensures c.in-Ok.ensures

pub returns-in-Err-clause-next : goal.returns-in-Err-clause-next
returns-in-Err-clause-next g c =
    λ later can. on_ok_weaker c.settle.result
    (λ other. absurd (next-refused (g.C.Closure.state c.args.closure.now) (g.C.Closure.state c.take.new.self)
    c.args.receipt.now c.in_ok-try_clone.field-0 c.in-Err.refused later c.in_ok-try_clone.ensures
    (subst IsConfiguration c.config.ensures.config c.domains-domains.ensures.form) c.in-Err.ensures other can))
    c.settle.ensures
