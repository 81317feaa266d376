-- Raised flags are membership, in the order of the different documents.
use Rattle.std.proofs.Common.{◌≡◌, ◌∙◌, ap, sym, subst}
use Rattle.closure_parts.specs.Held.{meaning_of}
use Rattle.closure_core.specs.Inside.Nodes.{pairs_of}
use Rattle.closure_parts.specs.Pairs.{raised_of}
use Rattle.closure_core.specs.AcceptedList.{IsAcceptedList}
use Rattle.closure_parts.proofs.AcceptedFacts.{accepted-list}
use Rattle.trust_closure.proofs.IndexFacts.{reports}
use Rattle.trust_closure.proofs.closure.IndexedClosureClosure.accepted.Goals as goal

pub returns : goal.returns
returns c =
    let h = c.self.inside.held in
    let p = c.self.inside.pairs in
    let i = c.self.invariant.indexed in
    let seeds : c.seeds-seeds.result.now ≡ h.config.seeds = c.seeds-seeds.ensures ∙ ap (λ a. a.seeds) c.config.ensures.config in
    let list = c.accepted.ensures
    ∙ ap (λ ss. raised_of (pairs_of ss c.arrived.result.now) p c.args.domain.now) seeds
    ∙ ap (λ rs. raised_of (pairs_of h.config.seeds rs) p c.args.domain.now) c.arrived.ensures in
    subst (λ v. IsAcceptedList v.state.meaning c.args.domain.now c.accepted.result) c.self.view_is
    (subst (IsAcceptedList (meaning_of h) c.args.domain.now) (sym list)
    (accepted-list (meaning_of h) (pairs_of h.config.seeds h.arrived) p c.args.domain.now
    (reports h p c.self.inside.label_index i.built i.counts) i.built.pairing.rising))
