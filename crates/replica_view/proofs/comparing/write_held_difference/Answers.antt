use Rattle.std.proofs.Common.{sym, ◌∙◌}
use Rattle.replica_view.proofs.MadeLineFacts.{same_held}
use Rattle.replica_view.proofs.comparing.write_held_difference.Goals as goal

pub returns-clause-same : goal.returns-clause-same
returns-clause-same g c =
    let stated = same_held _ _ _ c.in_ok-lines.ensures in
    (λ t. stated.0 (sym c.as_slice-2.ensures.value ∙ c.is_none.ensures.0 t), λ same. c.is_none.ensures.1 (c.as_slice-2.ensures.value ∙ stated.1 same))
