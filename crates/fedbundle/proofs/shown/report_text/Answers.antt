use Rattle.std.proofs.Common.{Err, ap}
use Rattle.std.proofs.lemmas.Result.{err_from_is_err_and}
use Rattle.command_exits.specs.DeviceRuns.{device_run}
use Rattle.fedbundle.proofs.ShownCallFacts.{report_failed}
use Rattle.fedbundle.proofs.shown.report_text.Goals as goal

pub returns-in_err-write_report : goal.returns-in_err-write_report
returns-in_err-write_report g c =
    let exit = err_from_is_err_and c.from_residual.result c.from_residual.ensures.1 in
    rw (exit.1, exit.2) (report_failed (Unit {0}) _ (device_run g.W.Sink.contents g.W.Sink.has_failed c.args.sink.now c.write_report.new.sink)
    c.in_err-write_report.field-0.0 (λ io. c.in_err-write_report.ensures.io (ap Err io))
    (λ none. ap g.W.Sink.contents (c.in_err-write_report.ensures.memory (ap Err none))))

pub returns : goal.returns
returns g c = let w = c.in_ok-write_report.ensures.ok in record { text = w.text; is = w.report; written = w.written }
