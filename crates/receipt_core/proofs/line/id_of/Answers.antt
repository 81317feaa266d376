use Rattle.std.proofs.Common.{[], ap, sym, ◌∙◌}
use Rattle.receipt_core.specs.Receipt.{Receipt, IsReceipt, receipt_id_of}
use Rattle.receipt_core.proofs.LineFacts.{line_text, pieces_grown}
use Rattle.sha2.specs.Sha256.{sha256}
use Rattle.receipt_core.specs.Parts.{pieces}
use Rattle.receipt_core.proofs.line.id_of.Goals as goal

-- the receipt of the call's arguments
abbrev receipt : goal.After-finalize → Receipt
receipt c = record { domain = c.args.domain.now; endpoint = c.args.endpoint.now; document = c.args.document.now; voucher = c.args.voucher; key = c.args.key }

-- The parts are well formed.
form : (c : goal.After-finalize) → IsReceipt (receipt c)
form c = record {
  domain = c.as_str.ensures.valid;
  endpoint = c.as_str-2.ensures.valid;
  document = c.canonical.ensures.form;
  fits = c.canonical.ensures.fits;
  voucher = c.digits-2.ensures.form;
  key = c.digits.ensures.form;
}

pub returns : goal.returns
unfolding receipt_id_of
returns c =
    c.finalize.ensures _
    (c.update-11.ensures _ (c.update-10.ensures _ (c.update-9.ensures _ (c.update-8.ensures _ (c.update-7.ensures _ (c.update-6.ensures _
    (c.update-5.ensures _ (c.update-4.ensures _ (c.update-3.ensures _ (c.update-2.ensures _ (c.update.ensures [] c.new-hasher.ensures)))))))))))
    ∙ ap sha256 (pieces_grown c.canonical.result.now c.as_str.result.now c.as_str-2.result.now c.digits.result c.digits-2.result)
    ∙ (λ i. sha256 (pieces (c.canonical.ensures.text i) (c.as_str.ensures.text i) (c.as_str-2.ensures.text i)
    (c.digits.ensures.text i) (c.digits-2.ensures.text i)))
    ∙ ap sha256 (sym (line_text (receipt c) (form c)))
