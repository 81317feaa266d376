use Rattle.std.proofs.Common.{◌∙◌}
use Rattle.receipt_core.proofs.receipt.Receipt.new_with.Goals as goal

pub invariant_of-result : goal.invariant_of-result
invariant_of-result c = record {
  is = c.form_of_parts.ensures;
  kept_id = tt;
  kept_need = c.in_ok-need.ensures ∙ (λ i. record { domain = c.domain-2.ensures i; document = c.args.voucher; key = c.args.key });
  kept_offers = c.in_ok-offers.ensures;
}
