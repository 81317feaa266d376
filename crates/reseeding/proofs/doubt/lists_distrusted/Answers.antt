use Rattle.receipt_core.proofs.ChainFacts.{not_stated}
use Rattle.reseeding.proofs.DoubtFacts.{IsListedRecord, passed_by, record_of_key}
use Rattle.reseeding.proofs.doubt.lists_distrusted.Goals as goal

pub loop-of-preserved : goal.loop-of-preserved
loop-of-preserved g c =
    passed_by (IsListedRecord c.args.domain.now c.args.document.now) _ _ _ (record_of_key c.in-Some.of.now c.in-Some.key.now) c.in-Some.ensures.steps
    (not_stated _ _ c.is_listed.ensures c.if-is_listed.false) c.loop-of.invariant
