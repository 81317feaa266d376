use Rattle.std.proofs.Common.{refl, false}
use Rattle.receipt_core.proofs.ChainFacts.{chain_stated, no_first, stated_no, not_stated}
use Rattle.receipt_core.proofs.chain.starts_chain.Goals as goal

pub returns-then-is_first : goal.returns-then-is_first
returns-then-is_first c =
    chain_stated c.args.config.now c.args.records.now c.args.first.now c.args.others.now c.leads_on.result
    (c.is_first.ensures.0 c.if-is_first.true) c.leads_on.ensures

pub returns-else-is_first : goal.returns-else-is_first
returns-else-is_first c =
    stated_no _ false refl (no_first c.args.config.now c.args.records.now c.args.first.now c.args.others.now
    (not_stated _ c.is_first.result c.is_first.ensures c.if-is_first.false))
