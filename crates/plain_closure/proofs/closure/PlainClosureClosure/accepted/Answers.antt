-- The documents whose flags are raised are the accepted ones.
use Rattle.std.proofs.Common.{◌≡◌, ◌∙◌, List, ap, sym, subst}
use Rattle.fed_config.specs.Configuration.{Configuration}
use Rattle.fed_config.specs.declared.seed.Seed.{Seed}
use Rattle.receipt_core.specs.Receipt.{Receipt}
use Rattle.closure_core.specs.Inside.Nodes.{pairs_of}
use Rattle.closure_parts.specs.Pairs.{raised_of}
use Rattle.closure_core.specs.AcceptedList.{IsAcceptedList}
use Rattle.closure_parts.proofs.AcceptedFacts.{accepted-list}
use Rattle.plain_closure.proofs.PlainFacts.{plain-reports}
use Rattle.plain_closure.proofs.closure.PlainClosureClosure.accepted.Goals as goal

pub returns : goal.returns
returns c =
    let h = c.self.inside.held in
    let p = c.self.inside.pairs in
    let seeds : c.seeds-seeds.result.now ≡ h.config.seeds = c.seeds-seeds.ensures ∙ ap (λ (a : Configuration). a.seeds) c.config.ensures.config in
    let list = λ (ss : List Seed) (rs : List Receipt). raised_of (pairs_of ss rs) p c.args.domain.now in
    let is : c.accepted.result ≡ list h.config.seeds h.arrived =
    c.accepted.ensures ∙ ap (λ ss. list ss c.arrived.result.now) seeds
    ∙ ap (λ rs. list h.config.seeds rs) c.arrived.ensures in
    subst (λ v. IsAcceptedList v.meaning c.args.domain.now c.accepted.result) c.self.view_is
    (subst (IsAcceptedList _ c.args.domain.now) (sym is)
    (accepted-list _ (pairs_of h.config.seeds h.arrived) p c.args.domain.now
    (plain-reports h p c.self.inside.seed_offers.items c.self.inside.released.items c.self.invariant.settled)
    c.self.invariant.settled.set.pairing.rising))
