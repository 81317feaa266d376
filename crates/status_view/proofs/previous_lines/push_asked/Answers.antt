use Rattle.std.proofs.Common.{◌++◌, ◌∙◌, ap, codes}
use Rattle.std.specs.Prelude.{string_bytes}
use Rattle.status_view.specs.Changing.{asked_word}
use Rattle.status_view.proofs.PieceFacts.{two}
use Rattle.status_view.proofs.previous_lines.push_asked.Goals as goal

pub returns : goal.returns
returns c =
    two c.args.out.now.items
    (codes "asked ") _ _ _ c.in_ok-extend_from_slice.ensures.items
    (two c.extend_from_slice.new.self.items
    (string_bytes c.args.peer.now.address) _ _ _
    (c.in_ok-extend_from_slice-2.ensures.items
    ∙ ap (λ t. c.extend_from_slice.new.self.items ++ t) c.as_bytes.ensures.value)
    (two c.extend_from_slice-2.new.self.items
    (codes " ") _ _ _ c.in_ok-extend_from_slice-3.ensures.items
    (two c.extend_from_slice-3.new.self.items (asked_word c.args.peer.now.asked)
    (codes "\n") _ _
    (c.in_ok-extend_from_slice-4.ensures.items
    ∙ ap (λ t. c.extend_from_slice-3.new.self.items ++ t) (c.as_bytes-2.ensures.value ∙ c.asked_word.ensures))
    c.in_ok-extend_from_slice-5.ensures.items)))
