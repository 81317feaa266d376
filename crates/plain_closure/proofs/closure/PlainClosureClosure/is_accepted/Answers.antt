-- A raised flag is membership.
use Rattle.std.proofs.Common.{◌≡◌, ◌∙◌, List, ap, subst}
use Rattle.std.specs.Prelude.{◌↔◌, IsTrue}
use Rattle.fed_config.specs.Configuration.{Configuration}
use Rattle.fed_config.specs.declared.seed.Seed.{Seed}
use Rattle.receipt_core.specs.Receipt.{Receipt}
use Rattle.receipt_core.specs.Acceptance.{IsMember}
use Rattle.closure_core.specs.Inside.Nodes.{pairs_of}
use Rattle.closure_parts.specs.Pairs.{HasRaised}
use Rattle.closure_core.specs.AcceptedList.{document_of}
use Rattle.plain_closure.proofs.PlainFacts.{plain-member}
use Rattle.plain_closure.proofs.closure.PlainClosureClosure.is_accepted.Goals as goal

pub returns : goal.returns
returns c =
    let h = c.self.inside.held in
    let q = document_of c.args.domain.now c.args.document.now in
    let seeds : c.seeds-seeds.result.now ≡ h.config.seeds = c.seeds-seeds.ensures ∙ ap (λ (a : Configuration). a.seeds) c.config.ensures.config in
    let raised : IsTrue c.is_raised.result ↔ HasRaised (pairs_of h.config.seeds h.arrived) c.self.inside.pairs q =
    subst (λ (ss : List Seed). IsTrue c.is_raised.result ↔ HasRaised (pairs_of ss h.arrived) c.self.inside.pairs q) seeds
    (subst (λ (rs : List Receipt). IsTrue c.is_raised.result
    ↔ HasRaised (pairs_of c.seeds-seeds.result.now rs) c.self.inside.pairs q) c.arrived.ensures c.is_raised.ensures)
    in
    let member = plain-member h c.self.inside.pairs c.self.inside.seed_offers.items c.self.inside.released.items c.self.invariant.settled q in
    subst (λ v. IsTrue c.is_raised.result ↔ IsMember v.meaning q) c.self.view_is
    ((λ e. member.0 (raised.0 e)), (λ m. raised.1 (member.1 m)))
