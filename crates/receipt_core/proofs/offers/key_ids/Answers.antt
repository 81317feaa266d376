use Rattle.std.proofs.Common.{◌∙◌, ap, sym}
use Rattle.receipt_core.specs.Receipt.{with_key_id}
use Rattle.receipt_core.proofs.KeyIdFacts.{key_ids-more}
use Rattle.jwk_set.specs.Element.{key_id_of}
use Rattle.receipt_core.proofs.offers.key_ids.Goals as goal

pub loop-authority-preserved : goal.loop-authority-preserved
loop-authority-preserved c =
    c.in_ok-add_key_id.ensures
    ∙ ap (with_key_id (key_id_of c.authority-item.result)) c.loop-authority.invariant
    ∙ sym (key_ids-more c.args.authorities.now c.loop-authority.authority-index c.authority-item.result c.loop-authority-test.true c.authority-item.is)
