use Rattle.std.proofs.Common.{subst}
use Rattle.std.proofs.lemmas.Result.{on_ok_weaker}
use Rattle.fed_config.specs.Configuration.{IsConfiguration}
use Rattle.replica_core.proofs.GrownFacts.{grow-refused}
use Rattle.replica_core.proofs.grown_closures.grow.Goals as goal

pub returns-in-Err : goal.returns-in-Err
returns-in-Err g c =
    λ same. on_ok_weaker c.settle.result
    (grow-refused (g.C.Closure.state c.args.closure.now) (g.C.Closure.state c.merge.new.self) (g.C.Closure.state c.args.more.now).meaning c.in-Err.why
    (subst IsConfiguration c.config.ensures.config c.domains-domains.ensures.form) c.config.ensures.valid c.in-Err.ensures same)
    c.settle.ensures
