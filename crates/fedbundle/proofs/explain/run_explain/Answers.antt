use Rattle.std.proofs.Common.{Vec, Global, ℕ, refl}
use Rattle.std.proofs.lemmas.Result.{err_from_is_err_and}
use Rattle.command_exits.proofs.ConfigFacts.{source_failed}
use Rattle.fedbundle.proofs.CommandFacts.{explain_unread}
use Rattle.fedbundle.proofs.explain.run_explain.Goals as goal

pub returns-in_err-bytes : goal.returns-in_err-bytes
returns-in_err-bytes g c =
    let exit = err_from_is_err_and c.from_residual.result c.from_residual.ensures.1 in
    rw (exit.1, exit.2) (explain_unread _ _ _ c.in_err-bytes.field-0.0
    (source_failed (Vec ℕ Global) c.in_err-bytes.field-0.0 _ _ c.in_err-bytes.ensures.fault) refl)

pub returns-in_err-document : goal.returns-in_err-document
returns-in_err-document g c =
    let exit = err_from_is_err_and c.from_residual-in_err-document.result c.from_residual-in_err-document.ensures.1 in
    rw (exit.1, exit.2) (record {
      bytes = c.in_ok-bytes.bytes.items;
      read = c.in_ok-bytes.ensures.bytes;
      cause = rw c.as_slice.ensures.value at c.in_err-document.ensures;
      unwritten = refl;
    })
