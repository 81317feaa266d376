use Rattle.std.proofs.Common.{codes}
use Rattle.change_view.specs.ChangeTexts.{new_members}
use Rattle.change_view.proofs.PieceFacts.{two}
use Rattle.change_view.proofs.change_texts.push_merged_members.Goals as goal

pub returns : goal.returns
returns c =
    two c.args.out.now.items (codes ",\"event\":\"merge\"") (new_members c.args.new) _ _
    c.in_ok-extend_from_slice.ensures.items c.in_ok-push_new_members.ensures
