use Rattle.std.proofs.Common.{refl, false}
use Rattle.receipt_core.proofs.ChainFacts.{seeded_stated, distrusted_seeded, stated_no, not_stated}
use Rattle.receipt_core.proofs.chain.is_seeded.Goals as goal

pub returns-then-has_key_of : goal.returns-then-has_key_of
returns-then-has_key_of c =
    stated_no _ false refl (distrusted_seeded c.args.config.now c.args.records.now c.args.receipt.now
    (c.has_key_of.ensures.0 c.if-has_key_of.true))

pub returns-else-has_key_of : goal.returns-else-has_key_of
returns-else-has_key_of c =
    seeded_stated c.args.config.now c.seeds.result.now c.args.records.now c.args.receipt.now c.has_voucher.result c.seeds.ensures
    (not_stated _ c.has_key_of.result c.has_key_of.ensures c.if-has_key_of.false) c.has_voucher.ensures
