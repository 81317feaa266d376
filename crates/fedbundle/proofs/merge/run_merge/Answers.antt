use Rattle.std.proofs.Common.{◌∙◌, ℕ, ap, Err}
use Rattle.std.proofs.lemmas.Result.{err_from_is_err_and}
use Rattle.command_exits.specs.declared.error.CommandError.TheVariants.{Sync}
use Rattle.fedbundle.proofs.DeviceFacts.{stream_sound}
use Rattle.fedbundle.proofs.merge.run_merge.Goals as goal

pub returns-in_err-other-clause-source_sound : goal.returns-in_err-other-clause-source_sound
returns-in_err-other-clause-source_sound g c =
    let exit = err_from_is_err_and c.from_residual.result c.from_residual.ensures.1 in
    λ unless. stream_sound ℕ c.in_err-other.field-0.0 _ _ (λ io. unless (exit.1 ∙ ap Err (exit.2 ∙ ap Sync io))) c.in_err-other.ensures.fault
