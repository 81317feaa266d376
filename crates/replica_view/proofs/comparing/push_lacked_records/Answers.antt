use Rattle.receipt_core.proofs.ChainFacts.{not_stated}
use Rattle.replica_view.proofs.MadeLineFacts.{lines_pass, lines_more}
use Rattle.replica_view.proofs.comparing.push_lacked_records.Goals as goal

pub loop-domain-preserved-then-is_distrusted : goal.loop-domain-preserved-then-is_distrusted
loop-domain-preserved-then-is_distrusted g c =
    lines_pass _ _ c.into_iter-domain-iterator.result c.loop-domain.domain-iterator c.next.new.self
    (record { domain = c.in-Some.domain.now; key = c.in-Some.key.now })
    c.args.lines.now.items c.loop-domain.lines.items c.in-Some.ensures.steps c.loop-domain.invariant
    (c.is_distrusted.ensures.0 c.if-is_distrusted.true)

pub loop-domain-preserved : goal.loop-domain-preserved
loop-domain-preserved g c =
    lines_more _ _ c.into_iter-domain-iterator.result c.loop-domain.domain-iterator c.next.new.self
    (record { domain = c.in-Some.domain.now; key = c.in-Some.key.now })
    c.args.lines.now.items c.loop-domain.lines.items c.in-Some.ensures.steps c.loop-domain.invariant c.push_record.new.lines.items
    (not_stated _ _ c.is_distrusted.ensures c.if-is_distrusted.false)
    c.in_ok-push_record.ensures
