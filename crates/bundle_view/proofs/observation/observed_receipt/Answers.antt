use Rattle.std.proofs.Common.{subst}
use Rattle.std.proofs.lemmas.Result.{err_from_is_err_and}
use Rattle.fed_config.specs.Configuration.{Configuration, ReachesFloor}
use Rattle.bundle_view.proofs.ObserveFacts.{unread, copied, observation_made, too_low}
use Rattle.bundle_view.proofs.observation.observed_receipt.Goals as goal

pub returns-in_err-document : goal.returns-in_err-document
returns-in_err-document g c =
    let exit = err_from_is_err_and c.from_residual-in_err-document.result c.from_residual-in_err-document.ensures.1 in
    rw (exit.1, exit.2) (unread _ _ _ _ c.in_ok-voucher.voucher c.in_err-document.field-0.0 c.in_ok-voucher.ensures c.in_err-document.ensures)

pub returns-then-not-reaches_floor : goal.returns-then-not-reaches_floor
returns-then-not-reaches_floor g c =
    too_low _ c.config.result.now _ _ _ c.in_ok-voucher.voucher c.in_ok-document.document c.in_ok-voucher.ensures c.in_ok-document.ensures
    c.config.ensures.config c.if-not-reaches_floor.ensures

pub returns : goal.returns
returns g c =
    observation_made _ _ _ _ c.in_ok-voucher.voucher c.in_ok-document.document c.in_ok-receipt.receipt
    (copied _ _ c.args.verdict.now _ c.in_ok-voucher.voucher c.in_ok-document.document c.in_ok-receipt.receipt
    c.in_ok-receipt.ensures c.in_ok-try_clone.ensures c.in_ok-try_clone-2.ensures)
    c.in_ok-voucher.ensures c.in_ok-document.ensures
    (subst (λ (config : Configuration). ReachesFloor config c.args.domain.now c.in_ok-document.document) c.config.ensures.config c.if-not-reaches_floor.ensures)
