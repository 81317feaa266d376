use Rattle.std.proofs.lemmas.Result.{err_from_is_err_and}
use Rattle.fed_config.proofs.BytesFacts.{json_of, shape_exit, read_exit}
use Rattle.fed_config.proofs.config.Config.read.Goals as goal

pub returns-in_err-read_entries-in-Ok-from_str : goal.returns-in_err-read_entries-in-Ok-from_str
returns-in_err-read_entries-in-Ok-from_str c =
    let p = err_from_is_err_and c.from_residual.result c.from_residual.ensures.1 in
    let json = json_of c.args.bytes.now _ _ c.in-Ok.ensures.cases.1 c.in-Ok.ensures.cases.0 c.in-Ok-from_str.ensures.ok in
    rw (p.1, p.2) (shape_exit c.args.bytes.now _ _ json c.in_err-read_entries-in-Ok-from_str.ensures.said)

pub returns-in_ok-read_entries-in-Ok-from_str : goal.returns-in_ok-read_entries-in-Ok-from_str
returns-in_ok-read_entries-in-Ok-from_str c =
    let json = json_of c.args.bytes.now _ _ c.in-Ok.ensures.cases.1 c.in-Ok.ensures.cases.0 c.in-Ok-from_str.ensures.ok in
    read_exit c.args.bytes.now _ _ c.from_entries.result json c.in_ok-read_entries-in-Ok-from_str.ensures.said c.from_entries.ensures
