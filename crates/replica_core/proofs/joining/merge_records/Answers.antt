-- A merge with the closure of the records also holds them.
use Rattle.std.proofs.Common.{ap, ◌∙◌}
use Rattle.fed_config.specs.Configuration.{Configuration}
use Rattle.replica_core.specs.Inside.RecordsToo.{only_records}
use Rattle.replica_core.proofs.JoiningFacts.{merged-records}
use Rattle.replica_core.proofs.joining.merge_records.Goals as goal

pub returns-in-Ok : goal.returns-in-Ok
returns-in-Ok g c =
    merged-records (g.C.Closure.state c.args.closure.now) (g.C.Closure.state c.merge.new.self) _ c.args.records.now _
    c.sets.ensures.records c.config.ensures.valid
    (c.in-Some.ensures ∙ ap (λ (own : Configuration). only_records own c.args.records.now) c.config.ensures.config)
    c.in-Ok.ensures
