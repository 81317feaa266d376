use Rattle.std.proofs.Common.{Vec, Global, ℕ}
use Rattle.std.proofs.lemmas.Result.{err_from_is_err_and}
use Rattle.command_exits.proofs.ConfigFacts.{source_failed}
use Rattle.fedbundle.proofs.CommandFacts.{observe_unread}
use Rattle.fedbundle.proofs.observe.prepare_observe.Goals as goal

pub returns-in_err-bytes-clause-refused : goal.returns-in_err-bytes-clause-refused
returns-in_err-bytes-clause-refused g c =
    let exit = err_from_is_err_and c.from_residual.result c.from_residual.ensures.1 in
    rw (exit.1, exit.2) (observe_unread _ _ _ c.in_err-bytes.field-0.0 (source_failed (Vec ℕ Global) c.in_err-bytes.field-0.0 _ _ c.in_err-bytes.ensures.fault))
