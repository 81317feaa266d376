use Rattle.std.proofs.Common.{subst, sym}
use Rattle.fed_config.specs.Configuration.{AreDomains, IsPlace}
use Rattle.fed_config.proofs.DomainFacts.{place_found}
use Rattle.fed_config.proofs.config.Config.domain_no.Goals as goal

pub returns : goal.returns
returns c =
    let all : AreDomains c.args.self.now c.self.inside.domains.items =
    subst (λ v. AreDomains v c.self.inside.domains.items) c.self.view_is c.self.invariant.are_domains in
    let lent : AreDomains c.args.self.now c.deref.result.now = subst (AreDomains c.args.self.now) (sym c.deref.ensures.value) all in
    subst (IsPlace c.args.self.now c.args.domain.now) (sym c.ok.ensures.value)
    (place_found c.args.self.now c.deref.result.now c.args.domain.now c.binary_search.result lent
    c.binary_search.ensures.bound c.binary_search.ensures.position)
