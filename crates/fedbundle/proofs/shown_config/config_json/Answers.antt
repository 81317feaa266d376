use Rattle.std.proofs.Common.{Err, ap}
use Rattle.std.proofs.lemmas.Result.{err_from_is_err_and}
use Rattle.command_exits.specs.DeviceRuns.{device_run}
use Rattle.fedbundle.proofs.ShownCallFacts.{writer_failed}
use Rattle.fedbundle.proofs.shown_config.config_json.Goals as goal

pub returns-in_err-write_config_json : goal.returns-in_err-write_config_json
returns-in_err-write_config_json g c =
    let exit = err_from_is_err_and c.from_residual.result c.from_residual.ensures.1 in
    let failed = c.in_err-write_config_json.ensures in
    rw (exit.1, exit.2) (writer_failed (Unit {0}) _ (device_run g.W.Sink.contents g.W.Sink.has_failed c.args.sink.now c.write_config_json.new.sink)
    c.in_err-write_config_json.field-0.0 (λ io. failed.io (ap Err io))
    (λ none. ap g.W.Sink.contents (failed.memory (ap Err none))))

pub returns : goal.returns
returns g c = c.in_ok-write_config_json.ensures.ok
