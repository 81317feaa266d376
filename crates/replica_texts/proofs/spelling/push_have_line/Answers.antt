use Rattle.replica_texts.specs.Inside.Spelling.{have_line_says}
use Rattle.replica_texts.proofs.PieceFacts.{asked-pushed}
use Rattle.replica_texts.proofs.spelling.push_have_line.Goals as goal

pub returns : goal.returns
returns c =
    asked-pushed (have_line_says c.args.line.now) _ _ _ _ _ _ _ _ _ _ _ _
    c.in_ok-extend_from_slice.ensures.items c.in_ok-push_number.ensures c.in_ok-extend_from_slice-2.ensures.items c.in_ok-push_digits.ensures
    c.in_ok-extend_from_slice-3.ensures.items c.in_ok-push_number-2.ensures c.in_ok-extend_from_slice-4.ensures.items c.in_ok-push_ids.ensures
    c.in_ok-extend_from_slice-5.ensures.items c.in_ok-push_number-3.ensures c.in_ok-extend_from_slice-6.ensures.items
