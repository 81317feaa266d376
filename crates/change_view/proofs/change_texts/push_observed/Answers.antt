use Rattle.std.proofs.Common.{codes}
use Rattle.change_view.specs.ChangeTexts.{document_pairs, voucher_pairs}
use Rattle.change_view.proofs.PieceFacts.{two}
use Rattle.change_view.proofs.change_texts.push_observed.Goals as goal

pub returns : goal.returns
returns c =
    two c.args.out.now.items (codes "event=observe domain=") _ _ _ c.in_ok-extend_from_slice.ensures.items
    (two c.extend_from_slice.new.self.items (document_pairs c.args.observed.now) (voucher_pairs c.args.observed.now) _ _
    c.in_ok-push_document_pairs.ensures c.in_ok-push_voucher_pairs.ensures)
