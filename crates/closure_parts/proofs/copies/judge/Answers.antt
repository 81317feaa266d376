-- Each cause in its turn.
use Rattle.std.proofs.Common.{inl, inr, arith}
use Rattle.std.proofs.lemmas.Result.{err_from_is_err_and}
use Rattle.closure_parts.specs.Held.{meaning_of}
use Rattle.closure_core.specs.Refusals.{HasSameDigest}
use Rattle.closure_parts.proofs.MergeFacts.{alike_of, refuses_record, refuses_receipt, knows_records, fits_receipts}
use Rattle.closure_parts.proofs.copies.judge.Goals as goal

pub returns-then-not-knows_all : goal.returns-then-not-knows_all
returns-then-not-knows_all c =
    let m = meaning_of c.args.held.now in
    let other = meaning_of c.args.other.now in
    let alike : HasSameDigest m other =
    alike_of m other c.config-config.result.now c.config.result.now c.digest.result.0 c.digest-2.result.0
    c.config-config.ensures.config c.config.ensures.config c.digest.ensures c.digest-2.ensures c.if-ne.ensures in
    refuses_record m other c.config-config.result.now c.distrusts.result c.config-config.ensures.config c.distrusts.ensures alike c.if-not-knows_all.ensures

pub returns-in_err-fit_all : goal.returns-in_err-fit_all
returns-in_err-fit_all c =
    let m = meaning_of c.args.held.now in
    let other = meaning_of c.args.other.now in
    let alike : HasSameDigest m other =
    alike_of m other c.config-config.result.now c.config.result.now c.digest.result.0 c.digest-2.result.0
    c.config-config.ensures.config c.config.ensures.config c.digest.ensures c.digest-2.ensures c.if-ne.ensures in
    let known = knows_records m other c.config-config.result.now c.distrusts.result c.config-config.ensures.config
    c.distrusts.ensures c.if-not-knows_all.ensures in
    let p = err_from_is_err_and c.from_residual.result c.from_residual.ensures.1 in
    rw (p.1, p.2) (refuses_receipt m other c.config-config.result.now c.receipts.result c.config-config.ensures.config
    c.receipts.ensures alike known c.in_err-fit_all.field-0.0 c.in_err-fit_all.ensures)

pub returns-then-new_receipts-receipts_left : goal.returns-then-new_receipts-receipts_left
returns-then-new_receipts-receipts_left c =
    let m = meaning_of c.args.held.now in
    let other = meaning_of c.args.other.now in
    let alike : HasSameDigest m other =
    alike_of m other c.config-config.result.now c.config.result.now c.digest.result.0 c.digest-2.result.0
    c.config-config.ensures.config c.config.ensures.config c.digest.ensures c.digest-2.ensures c.if-ne.ensures in (
      record {
        alike = alike;
        fitting = fits_receipts m other c.config-config.result.now c.receipts.result c.config-config.ensures.config c.receipts.ensures c.in_ok-fit_all.ensures;
        domains = knows_records m other c.config-config.result.now c.distrusts.result c.config-config.ensures.config
            c.distrusts.ensures c.if-not-knows_all.ensures;
      },
      inl (omega (arith, c.new_receipts.ensures, c.receipts_left.ensures)),
    )

pub returns-then-new_records-records_left : goal.returns-then-new_records-records_left
returns-then-new_records-records_left c =
    let m = meaning_of c.args.held.now in
    let other = meaning_of c.args.other.now in
    let alike : HasSameDigest m other =
    alike_of m other c.config-config.result.now c.config.result.now c.digest.result.0 c.digest-2.result.0
    c.config-config.ensures.config c.config.ensures.config c.digest.ensures c.digest-2.ensures c.if-ne.ensures in (
      record {
        alike = alike;
        fitting = fits_receipts m other c.config-config.result.now c.receipts.result c.config-config.ensures.config c.receipts.ensures c.in_ok-fit_all.ensures;
        domains = knows_records m other c.config-config.result.now c.distrusts.result c.config-config.ensures.config
            c.distrusts.ensures c.if-not-knows_all.ensures;
      },
      inr (omega (arith, c.new_records.ensures, c.records_left.ensures)),
    )

pub returns : goal.returns
returns c =
    let m = meaning_of c.args.held.now in
    let other = meaning_of c.args.other.now in
    let alike : HasSameDigest m other =
    alike_of m other c.config-config.result.now c.config.result.now c.digest.result.0 c.digest-2.result.0
    c.config-config.ensures.config c.config.ensures.config c.digest.ensures c.digest-2.ensures c.if-ne.ensures in
    record {
      of_config = record {
        alike = alike;
        fitting = fits_receipts m other c.config-config.result.now c.receipts.result c.config-config.ensures.config c.receipts.ensures c.in_ok-fit_all.ensures;
        domains = knows_records m other c.config-config.result.now c.distrusts.result c.config-config.ensures.config
            c.distrusts.ensures c.if-not-knows_all.ensures;
      };
      few = omega (arith, c.new_receipts.ensures, c.receipts_left.ensures);
      few_records = omega (arith, c.new_records.ensures, c.records_left.ensures);
    }
