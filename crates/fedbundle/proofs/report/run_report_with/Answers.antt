use Rattle.std.proofs.Common.{ap, refl}
use Rattle.std.proofs.lemmas.Result.{err_from_is_err_and}
use Rattle.receipt_core.specs.Acceptance.{Meaning}
use Rattle.command_line.specs.declared.option_texts.OutputForm.TheVariants.{Text}
use Rattle.fedbundle.specs.CommandRun.{run_of}
use Rattle.command_exits.specs.DeviceRuns.{device_run}
use Rattle.fedbundle.proofs.RunFacts.{stopped_early}
use Rattle.fedbundle.proofs.report.run_report_with.Goals as goal

pub returns-in_err-closure : goal.returns-in_err-closure
returns-in_err-closure g c =
    let exit = err_from_is_err_and c.from_residual.result c.from_residual.ensures.1 in
    let run = run_of (device_run g.R.Source.remaining g.R.Source.has_failed c.args.source.now c.args.source.now)
    (device_run g.W.Sink.contents g.W.Sink.has_failed c.args.sink.now c.args.sink.now) in
    let line_errors = device_run g.E.Sink.contents g.E.Sink.has_failed c.args.line_errors.now c.args.line_errors.now in
    rw (exit.1, exit.2) (record {
      answer = stopped_early Text run line_errors c.args.config.now refl refl;
      sound = λ unless. (refl, refl, refl);
    })

pub returns : goal.returns
returns g c =
    let config = ap (λ (m : Meaning). m.config) c.in_ok-closure.ensures in
    rw config at c.run_report_into.ensures
