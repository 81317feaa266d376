use Rattle.std.proofs.Common.{ap, subst, option_copied}
use Rattle.std.proofs.lemmas.Result.{err_from_is_err_and}
use Rattle.fed_config.specs.Configuration.{Configuration}
use Rattle.bundle_view.specs.Observe.{RefusesEndpoint}
use Rattle.bundle_view.proofs.ObserveFacts.{refuses_endpoint, none_current}
use Rattle.bundle_view.proofs.observation.find_voucher.Goals as goal

pub returns-in_err-check_endpoint : goal.returns-in_err-check_endpoint
returns-in_err-check_endpoint g c =
    let exit = err_from_is_err_and c.from_residual.result c.from_residual.ensures.1 in
    rw (exit.1, exit.2)
    (refuses_endpoint _ _ _ c.in_err-check_endpoint.field-0.0
    (subst (λ (config : Configuration). RefusesEndpoint config c.args.domain.now c.args.verdict.now.endpoint
    c.in_err-check_endpoint.field-0.0) c.config.ensures.config c.in_err-check_endpoint.ensures))

pub returns-in_default : goal.returns-in_default
returns-in_default g c =
    none_current _ _ _ _ _ _ (c.in_ok-check_endpoint.ensures) c.config.ensures.config c.domain-home.ensures (ap option_copied c.in_default.is) c.current.ensures
