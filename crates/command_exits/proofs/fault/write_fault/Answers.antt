use Rattle.std.proofs.Common.{refl}
use Rattle.std.proofs.lemmas.Result.{err_from_is_err_and}
use Rattle.command_exits.proofs.fault.write_fault.Goals as goal

pub returns-in_err-write_line-clause-io : goal.returns-in_err-write_line-clause-io
returns-in_err-write_line-clause-io g c =
    let exit = err_from_is_err_and c.from_residual.result c.from_residual.ensures.1 in
    rw exit.1 (exit.2, c.in_err-write_line.ensures.io refl, (c.as_bytes.result.now, c.write_line.ensures.beginning))
