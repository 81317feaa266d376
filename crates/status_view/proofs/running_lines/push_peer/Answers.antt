use Rattle.std.proofs.Common.{◌++◌, ◌∙◌, ap, codes, decimal}
use Rattle.std.specs.Prelude.{string_bytes}
use Rattle.text_lines.specs.TextLines.{number_or_none}
use Rattle.status_view.specs.Running.{code_or_none}
use Rattle.status_view.proofs.PieceFacts.{two}
use Rattle.status_view.proofs.running_lines.push_peer.Goals as goal

pub returns : goal.returns
returns c =
    two c.args.out.now.items
    (codes "peer ") _ _ _ c.in_ok-extend_from_slice.ensures.items
    (two c.extend_from_slice.new.self.items
    (string_bytes c.args.peer.now.address) _ _ _
    (c.in_ok-extend_from_slice-2.ensures.items
    ∙ ap (λ t. c.extend_from_slice.new.self.items ++ t) c.as_bytes.ensures.value)
    (two c.extend_from_slice-2.new.self.items
    (codes " ended-well ") _ _ _ c.in_ok-extend_from_slice-3.ensures.items
    (two c.extend_from_slice-3.new.self.items
    (number_or_none c.args.peer.now.ended_well) _ _ _ c.in_ok-push_number_or_none.ensures
    (two c.push_number_or_none.new.out.items
    (codes " fault ") _ _ _ c.in_ok-extend_from_slice-4.ensures.items
    (two c.extend_from_slice-4.new.self.items
    (code_or_none c.args.peer.now.fault) _ _ _ c.in_ok-push_code_or_none.ensures
    (two c.push_code_or_none.new.out.items
    (codes " receipts ") _ _ _ c.in_ok-extend_from_slice-5.ensures.items
    (two c.extend_from_slice-5.new.self.items (decimal c.args.peer.now.receipts)
    (codes "\n") _ _ c.in_ok-push_number.ensures
    c.in_ok-extend_from_slice-6.ensures.items)))))))
