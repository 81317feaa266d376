use Rattle.std.proofs.Common.{refl, false}
use Rattle.receipt_core.specs.Receipt.{pair_of}
use Rattle.receipt_core.proofs.ChainFacts.{next_stated, distrusted_stated, stated_no, not_stated}
use Rattle.receipt_core.proofs.chain.is_vouched_for.Goals as goal

pub returns-then-has_key_of : goal.returns-then-has_key_of
returns-then-has_key_of c =
    stated_no _ false refl (distrusted_stated c.args.records.now (pair_of c.args.previous.now) c.args.receipt.now
    (c.has_key_of.ensures.0 c.if-has_key_of.true))

pub returns-else-has_key_of : goal.returns-else-has_key_of
returns-else-has_key_of c =
    next_stated c.args.records.now (pair_of c.args.previous.now) c.args.receipt.now c.offers_need.result
    (not_stated _ c.has_key_of.result c.has_key_of.ensures c.if-has_key_of.false) c.offers_need.ensures
