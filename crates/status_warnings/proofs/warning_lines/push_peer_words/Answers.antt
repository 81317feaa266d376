use Rattle.std.proofs.Common.{◌++◌, ◌∙◌, ap, codes, decimal}
use Rattle.status_view.proofs.PieceFacts.{two}
use Rattle.status_warnings.proofs.warning_lines.push_peer_words.Goals as goal

pub returns : goal.returns
returns c =
    two c.args.out.now.items
    (c.args.peer.now) _ _ _
    (c.in_ok-extend_from_slice.ensures.items
    ∙ ap (λ t. c.args.out.now.items ++ t) (c.as_bytes.ensures.value))
    (two c.extend_from_slice.new.self.items
    (codes " had no session that ended well since ")
    (decimal c.args.since) _ _
    c.in_ok-extend_from_slice-2.ensures.items
    c.in_ok-push_number.ensures)
