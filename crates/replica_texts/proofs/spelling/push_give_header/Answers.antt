use Rattle.replica_texts.specs.Inside.Spelling.{header_by}
use Rattle.replica_texts.proofs.PieceFacts.{give-header-pushed}
use Rattle.replica_texts.proofs.spelling.push_give_header.Goals as goal

pub returns : goal.returns
returns c =
    give-header-pushed (header_by c.args.header.now) _ _ _ _ _ _ _ _ _ _ _ _ _
    c.in_ok-extend_from_slice.ensures.items c.in_ok-push_number.ensures c.in_ok-extend_from_slice-2.ensures.items c.in_ok-push_digits.ensures
    c.in_ok-extend_from_slice-3.ensures.items c.in_ok-push_number-2.ensures c.in_ok-push_distrusts.ensures
    c.in_ok-extend_from_slice-4.ensures.items c.in_ok-push_number-3.ensures c.in_ok-extend_from_slice-5.ensures.items
    c.in_ok-push_number-4.ensures c.in_ok-extend_from_slice-6.ensures.items
