use Rattle.std.proofs.Common.{rules, ◌≤◌, length, arith, sym, subst, List, ℕ, Vec, Global}
use Rattle.std.proofs.lemmas.Result.{err_from_is_err_and}
use Rattle.std.specs.Io.KnownBytes.{Consumes}
use Rattle.std.proofs.KnownBytes.{Consumes-trans}
use Rattle.byte_lines.proofs.PieceFacts.{TakesUpTo-end, failed_or_kept}
use Rattle.byte_lines.proofs.source.read_up_to.Goals as goal

pub returns-then-branch-eq0-clause-bytes : goal.returns-then-branch-eq0-clause-bytes
returns-then-branch-eq0-clause-bytes g c =
    let step = c.in_ok-take_piece.ensures in
    let (piece, items, came) = step.bytes in
    let within : length c.take_piece.new.taken.items ≤ c.args.limit = omega arith in
    let all = subst (Consumes _ _) (sym {A = List ℕ} items) (Consumes-trans _ _ _ _ _ c.pieces.invariant.consumed came) in
    TakesUpTo-end _ _ _ _ all (step.end (search rules)) within

pub returns-in_err-take_piece-clause-fault : goal.returns-in_err-take_piece-clause-fault
returns-in_err-take_piece-clause-fault g c =
    let exit = err_from_is_err_and c.from_residual-in_err-take_piece.result c.from_residual-in_err-take_piece.ensures.1 in
    let step = c.in_err-take_piece.ensures in
    rw (exit.1, exit.2) (failed_or_kept ℕ (Vec ℕ Global) c.in_err-take_piece.field-0.0 _ _ _ step.fault step.lasting c.pieces.invariant.sound)
