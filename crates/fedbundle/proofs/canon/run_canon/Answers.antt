use Rattle.std.proofs.Common.{◌∙◌, ap, refl, Err, Vec, Global, ℕ}
use Rattle.std.proofs.lemmas.Result.{err_from_is_err_and}
use Rattle.command_exits.proofs.ConfigFacts.{source_failed}
use Rattle.fedbundle.specs.CommandRun.{run_of}
use Rattle.command_exits.specs.DeviceRuns.{device_run}
use Rattle.fedbundle.proofs.CommandFacts.{canon_read, canon_unread}
use Rattle.fedbundle.proofs.DeviceFacts.{read_sound}
use Rattle.fedbundle.proofs.canon.run_canon.Goals as goal

pub returns-in_err-bytes-clause-sound : goal.returns-in_err-bytes-clause-sound
returns-in_err-bytes-clause-sound g c =
    let exit = err_from_is_err_and c.from_residual.result c.from_residual.ensures.1 in
    λ unless. (read_sound (Vec ℕ Global) c.in_err-bytes.field-0.0 _ _ (λ io. unless (exit.1 ∙ ap Err (exit.2 ∙ io))) c.in_err-bytes.ensures.fault, refl)

pub returns-in_err-bytes-clause-runs : goal.returns-in_err-bytes-clause-runs
returns-in_err-bytes-clause-runs g c =
    let exit = err_from_is_err_and c.from_residual.result c.from_residual.ensures.1 in
    rw (exit.1, exit.2) (canon_unread _ _ _ c.in_err-bytes.field-0.0
    (source_failed (Vec ℕ Global) c.in_err-bytes.field-0.0 _ _ c.in_err-bytes.ensures.fault) refl)

pub returns-clause-runs : goal.returns-clause-runs
returns-clause-runs g c =
    let source = device_run g.R.Source.remaining g.R.Source.has_failed c.args.source.now c.read_up_to.new.source in
    let sink = device_run g.W.Sink.contents g.W.Sink.has_failed c.args.sink.now c.run_canon_bytes.new.sink in
    canon_read (run_of source sink) c.in_ok-bytes.bytes.items c.args.domain.now c.args.form c.run_canon_bytes.result c.in_ok-bytes.ensures.bytes
    (rw c.as_slice.ensures.value at c.run_canon_bytes.ensures.runs)
