use Rattle.std.proofs.Common.{codes}
use Rattle.json_text.specs.JsonText.{string_member}
use Rattle.change_view.specs.ChangeTexts.{new_members}
use Rattle.change_view.proofs.PieceFacts.{two}
use Rattle.change_view.proofs.change_texts.push_pulled_members.Goals as goal

pub returns : goal.returns
returns c =
    two c.args.out.now.items (string_member (codes ",\"event\":\"pull\",\"peer\":") c.args.peer.now) (new_members c.args.new) _ _
    c.in_ok-push_string.ensures c.in_ok-push_new_members.ensures
