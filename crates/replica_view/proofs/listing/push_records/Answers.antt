use Rattle.std.proofs.Common.{option_copied}
use Rattle.replica_view.proofs.MadeLineFacts.{lines_pass, lines_more, passed_record, not_passed_record}
use Rattle.replica_view.proofs.listing.push_records.Goals as goal

pub loop-domain-preserved-then-is_left_aside : goal.loop-domain-preserved-then-is_left_aside
loop-domain-preserved-then-is_left_aside g c =
    lines_pass _ _ c.into_iter-domain-iterator.result c.loop-domain.domain-iterator c.next.new.self
    (record { domain = c.in-Some.domain.now; key = c.in-Some.key.now })
    c.args.lines.now.items c.loop-domain.lines.items c.in-Some.ensures.steps c.loop-domain.invariant
    (passed_record (option_copied c.args.chosen) c.is_left_aside.result _ c.is_left_aside.ensures c.if-is_left_aside.true)

pub loop-domain-preserved : goal.loop-domain-preserved
loop-domain-preserved g c =
    lines_more _ _ c.into_iter-domain-iterator.result c.loop-domain.domain-iterator c.next.new.self
    (record { domain = c.in-Some.domain.now; key = c.in-Some.key.now })
    c.args.lines.now.items c.loop-domain.lines.items c.in-Some.ensures.steps c.loop-domain.invariant c.push_shown_record.new.lines.items
    (not_passed_record (option_copied c.args.chosen) c.is_left_aside.result _ c.is_left_aside.ensures c.if-is_left_aside.false)
    c.in_ok-push_shown_record.ensures
