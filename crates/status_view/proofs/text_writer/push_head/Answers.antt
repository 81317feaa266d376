use Rattle.std.proofs.Common.{codes, decimal}
use Rattle.hex.specs.Hex.{encode_lower}
use Rattle.status_view.proofs.PieceFacts.{two}
use Rattle.status_view.proofs.text_writer.push_head.Goals as goal

pub returns : goal.returns
returns c =
    two c.args.out.now.items
    (codes "config ") _ _ _ c.in_ok-extend_from_slice.ensures.items
    (two c.extend_from_slice.new.self.items
    (encode_lower c.args.status.now.config.0) _ _ _ c.in_ok-push_digits.ensures
    (two c.push_digits.new.out.items
    (codes "\nreceipts ") _ _ _ c.in_ok-extend_from_slice-2.ensures.items
    (two c.extend_from_slice-2.new.self.items
    (decimal c.args.status.now.receipts) _ _ _ c.in_ok-push_number.ensures
    (two c.push_number.new.out.items
    (codes " of ") _ _ _ c.in_ok-extend_from_slice-3.ensures.items
    (two c.extend_from_slice-3.new.self.items
    (decimal c.args.status.now.receipt_limit) _ _ _ c.in_ok-push_number-2.ensures
    (two c.push_number-2.new.out.items
    (codes " pending ") _ _ _ c.in_ok-extend_from_slice-4.ensures.items
    (two c.extend_from_slice-4.new.self.items
    (decimal c.args.status.now.pending) _ _ _ c.in_ok-push_number-3.ensures
    (two c.push_number-3.new.out.items
    (codes "\nrecords ") _ _ _ c.in_ok-extend_from_slice-5.ensures.items
    (two c.extend_from_slice-5.new.self.items
    (decimal c.args.status.now.records) _ _ _ c.in_ok-push_number-4.ensures
    (two c.push_number-4.new.out.items
    (codes " of ") _ _ _ c.in_ok-extend_from_slice-6.ensures.items
    (two c.extend_from_slice-6.new.self.items (decimal c.args.status.now.record_limit)
    (codes "\n") _ _ c.in_ok-push_number-5.ensures
    c.in_ok-extend_from_slice-7.ensures.items)))))))))))
