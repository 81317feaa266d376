use Rattle.std.proofs.Common.{ap, refl, Err}
use Rattle.std.proofs.lemmas.Result.{err_from_is_err_and}
use Rattle.fedbundle.specs.CommandRun.{run_of}
use Rattle.command_exits.specs.DeviceRuns.{device_run}
use Rattle.fedbundle.proofs.RunFacts.{stopped_judging, stopped_writing, reported}
use Rattle.fedbundle.proofs.DeviceFacts.{report_sound}
use Rattle.fedbundle.proofs.report.run_report_into.Goals as goal

pub returns-in_err-count : goal.returns-in_err-count
returns-in_err-count g c =
    let exit = err_from_is_err_and c.from_residual.result c.from_residual.ensures.1 in
    let judged = c.in_err-count.ensures.stops in
    let run = run_of (device_run g.R.Source.remaining g.R.Source.has_failed c.args.source.now c.take_lines.new.source)
    (device_run g.W.Sink.contents g.W.Sink.has_failed c.args.sink.now c.args.sink.now) in
    let line_errors = device_run g.E.Sink.contents g.E.Sink.has_failed c.args.line_errors.now c.take_lines.new.line_errors in
    rw (exit.1, exit.2) (record {
      answer = stopped_judging c.args.form run line_errors (g.C.Closure.state c.args.closure.now).meaning.config c.in_err-count.field-0.0 refl
          (λ io. c.in_err-count.ensures.io (ap Err io)) judged;
      sound = λ unless. let same = c.in_err-count.ensures.sound unless in (same.0, refl, same.1);
    })

pub returns-in_err-report_to : goal.returns-in_err-report_to
returns-in_err-report_to g c =
    let exit = err_from_is_err_and c.from_residual-in_err-report_to.result c.from_residual-in_err-report_to.ensures.1 in
    let judged = c.in_ok-count.ensures.ok in
    let before = c.in_ok-count.ensures.sound (λ bad. cc) in
    let run = run_of (device_run g.R.Source.remaining g.R.Source.has_failed c.args.source.now c.take_lines.new.source)
    (device_run g.W.Sink.contents g.W.Sink.has_failed c.args.sink.now c.report_to.new.sink) in
    let line_errors = device_run g.E.Sink.contents g.E.Sink.has_failed c.args.line_errors.now c.take_lines.new.line_errors in
    rw (exit.1, exit.2) (record {
      answer = stopped_writing c.args.form run line_errors (g.C.Closure.state c.args.closure.now).meaning.config
          (g.C.Closure.state c.take_lines.new.closure).meaning c.in_ok-count.count c.in_err-report_to.field-0.0 judged
          (λ memory. ap g.W.Sink.contents (c.in_err-report_to.ensures.memory (ap Err memory)))
          (λ io. c.in_err-report_to.ensures.io (ap Err io));
      sound = λ unless. (
        before.0,
        report_sound (Unit {0}) c.in_err-report_to.field-0.0 _ _ (λ io. unless (ap Err io)) c.in_err-report_to.ensures.fault,
        before.1,
      );
    })

pub returns : goal.returns
returns g c =
    let judged = c.in_ok-count.ensures.ok in
    let before = c.in_ok-count.ensures.sound (λ bad. cc) in
    let run = run_of (device_run g.R.Source.remaining g.R.Source.has_failed c.args.source.now c.take_lines.new.source)
    (device_run g.W.Sink.contents g.W.Sink.has_failed c.args.sink.now c.report_to.new.sink) in
    let line_errors = device_run g.E.Sink.contents g.E.Sink.has_failed c.args.line_errors.now c.take_lines.new.line_errors in
    record {
      answer = (
        c.in_ok-count.ensures.read,
        reported c.args.form run.sink line_errors (g.C.Closure.state c.args.closure.now).meaning.config run.source.before
            (g.C.Closure.state c.take_lines.new.closure).meaning
            c.in_ok-count.count judged c.in_ok-report_to.ensures.ok,
      );
      sound = λ unless. (before.0, c.in_ok-report_to.ensures.fault, before.1);
    }
