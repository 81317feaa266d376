use Rattle.std.proofs.Common.{Vec, Global, ℕ, subst}
use Rattle.std.proofs.lemmas.Result.{err_from_is_err_and}
use Rattle.fed_config.specs.Reading.{RefusesConfigBytes}
use Rattle.command_exits.specs.DeviceRuns.{device_run}
use Rattle.command_exits.proofs.ConfigFacts.{no_bytes, source_failed}
use Rattle.command_exits.proofs.config_source.read_config.Goals as goal

pub returns-in_err-bytes : goal.returns-in_err-bytes
returns-in_err-bytes g c =
    let exit = err_from_is_err_and c.from_residual.result c.from_residual.ensures.1 in
    rw (exit.1, exit.2) (no_bytes (device_run g.R.Source.remaining g.R.Source.has_failed c.args.source.now c.read_up_to.new.source)
    c.in_err-bytes.field-0.0 (source_failed (Vec ℕ Global) c.in_err-bytes.field-0.0 _ _ c.in_err-bytes.ensures.fault))

pub returns-in_err-read : goal.returns-in_err-read
returns-in_err-read g c =
    let exit = err_from_is_err_and c.from_residual-in_err-read.result c.from_residual-in_err-read.ensures.1 in
    rw (exit.1, exit.2) (record {
      bytes = c.in_ok-bytes.bytes.items;
      read = c.in_ok-bytes.ensures.bytes;
      is = subst (λ l. RefusesConfigBytes l c.in_err-read.field-0.0) c.as_slice.ensures.value c.in_err-read.ensures;
    })
