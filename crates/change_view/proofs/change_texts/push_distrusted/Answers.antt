use Rattle.std.proofs.Common.{codes}
use Rattle.change_view.specs.ChangeTexts.{distrust_pairs}
use Rattle.change_view.proofs.PieceFacts.{two}
use Rattle.change_view.proofs.change_texts.push_distrusted.Goals as goal

pub returns : goal.returns
returns c =
    two c.args.out.now.items (codes "event=distrust domain=") (distrust_pairs c.args.distrusted.now) _ _
    c.in_ok-extend_from_slice.ensures.items c.in_ok-push_distrust_pairs.ensures
