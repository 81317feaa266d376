use Rattle.std.proofs.Common.{◌++◌, ◌∙◌, ap, codes}
use Rattle.change_view.specs.ChangeTexts.{new_entries}
use Rattle.change_view.proofs.PieceFacts.{two}
use Rattle.change_view.proofs.change_texts.push_pulled.Goals as goal

pub returns : goal.returns
returns c =
    two c.args.out.now.items (codes "event=pull peer=") _ _ _ c.in_ok-extend_from_slice.ensures.items
    (two c.extend_from_slice.new.self.items c.args.peer.now (new_entries c.args.new) _ _
    (c.in_ok-extend_from_slice-2.ensures.items ∙ ap (λ t. c.extend_from_slice.new.self.items ++ t) c.as_bytes.ensures.value)
    c.in_ok-push_new.ensures)
