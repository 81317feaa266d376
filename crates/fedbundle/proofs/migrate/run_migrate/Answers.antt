use Rattle.std.proofs.Common.{refl}
use Rattle.std.proofs.lemmas.Result.{err_from_is_err_and}
use Rattle.fedbundle.proofs.MigrateFacts.{stopped, cut}
use Rattle.fedbundle.proofs.migrate.run_migrate.Goals as goal

pub returns-in_err-carried : goal.returns-in_err-carried
returns-in_err-carried g c =
    let exit = err_from_is_err_and c.from_residual.result c.from_residual.ensures.1 in
    rw (exit.1, exit.2) (stopped (Unit {0}) _ _ _ c.in_err-carried.field-0.0 (c.in_err-carried.ensures.stops refl) refl refl c.in_err-carried.ensures.fault)

pub returns-in_err-print_snapshot : goal.returns-in_err-print_snapshot
returns-in_err-print_snapshot g c =
    let exit = err_from_is_err_and c.from_residual-in_err-print_snapshot.result c.from_residual-in_err-print_snapshot.ensures.1 in
    rw (exit.1, exit.2) (cut (Unit {0}) _ _ _ (g.C.Closure.state c.in_ok-carried.carried.closure).meaning c.in_ok-carried.carried.left_out
    c.in_err-print_snapshot.field-0.0 c.in_ok-carried.ensures.carried c.in_err-print_snapshot.ensures.beginning
    c.in_err-print_snapshot.ensures.fault c.in_ok-carried.ensures.fault)
