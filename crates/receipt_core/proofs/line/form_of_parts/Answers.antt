use Rattle.receipt_core.proofs.line.form_of_parts.Goals as goal

pub returns : goal.returns
returns c = record {
  domain = c.as_str-domain.ensures.valid;
  endpoint = c.as_str-endpoint.ensures.valid;
  document = c.canonical-document.ensures.form;
  fits = c.canonical-document.ensures.fits;
  voucher = c.is_digest.ensures;
  key = c.is_digest-2.ensures;
}
