use Rattle.distrust_view.proofs.DocumentFacts.{named_made}
use Rattle.distrust_view.proofs.fallen.push_named.Goals as goal

pub returns : goal.returns
returns c =
    named_made c.args.domain.now c.args.document.now c.id.result.0 c.rank.result _ _ _ _ c.id.ensures c.rank.ensures
    c.in_ok-push_digits.ensures c.in_ok-extend_from_slice.ensures.items c.in_ok-push_number_or_none.ensures
