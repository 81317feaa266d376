use Rattle.std.proofs.Common.{◌∙◌, ap, sym}
use Rattle.receipt_core.specs.Receipt.{with_key_id, key_cmp}
use Rattle.receipt_core.proofs.KeyIdFacts.{insert_key-with_item}
use Rattle.receipt_core.proofs.offers.add_key_id.Goals as goal

pub returns-in_ok-insert : goal.returns-in_ok-insert
returns-in_ok-insert c =
    c.in_ok-insert.ensures.keys ∙ insert_key-with_item key_cmp c.args.keys.now.keys c.in-Some.key
    ∙ ap (λ o. with_key_id o c.args.keys.now.keys) (sym c.in-Some.is ∙ c.key_id.ensures)
