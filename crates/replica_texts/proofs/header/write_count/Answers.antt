use Rattle.replica_texts.proofs.HeaderFacts.{count_pushed}
use Rattle.std.specs.Prelude.{decimal}
use Rattle.replica_texts.specs.Snapshots.{count_of, records_part}
use Rattle.replica_texts.proofs.header.write_count.Goals as goal

pub returns : goal.returns
unfolding count_of
returns c =
    count_pushed c.args.format _ _ _ _ _ (decimal c.args.receipts) (records_part c.args.format c.args.records)
    c.new-text.ensures.items c.in_ok-extend_from_slice.ensures.items
    c.in_ok-push_number.ensures c.in_ok-push_records.ensures c.in_ok-extend_from_slice-2.ensures.items
