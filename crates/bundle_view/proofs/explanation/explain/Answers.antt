-- What the search found explains, and if it found nothing, nothing does.
use Rattle.std.proofs.Common.{◌≡◌, Some, None, arith, reverse, refl, sym, ap, ◌∙◌, subst}
use Rattle.std.specs.Prelude.{Any, length}
use Rattle.std.proofs.lemmas.Bool.{both_ways}
use Rattle.std.proofs.lemmas.Option.{slice_get_within}
use Rattle.fed_config.specs.Configuration.{Configuration}
use Rattle.receipt_core.specs.Acceptance.{pair_of_seed}
use Rattle.closure_core.specs.AcceptedList.{document_of}
use Rattle.bundle_view.specs.Inside.Search.{AreLinkedSteps, IsBackFrom}
use Rattle.bundle_view.specs.Explain.{IsShortest}
use Rattle.bundle_view.proofs.TrailFacts.{linked}
use Rattle.bundle_view.proofs.ExplainFacts.{shortest_seed, none_leads, shortest_found, searched_moved}
use Rattle.bundle_view.proofs.explanation.explain.Goals as goal

pub returns-then-is_configured-clause-ok : goal.returns-then-is_configured-clause-ok
returns-then-is_configured-clause-ok g c =
    let m = (g.C.Closure.state c.args.closure.now).meaning in
    let p = document_of c.args.domain.now c.args.document.now in
    let seeds : c.seeds-seeds.result.now ≡ m.config.seeds = c.seeds-seeds.ensures ∙ ap (λ (x : Configuration). x.seeds) c.config.ensures.config in
    subst (IsShortest m p) (sym c.new.ensures.items)
    (shortest_seed m p (subst (Any (λ s. pair_of_seed s ≡ p)) seeds
    (c.is_configured.ensures.0 c.if-is_configured.true)))

pub chain_to-requires-clause-linked : goal.chain_to-requires-clause-linked
chain_to-requires-clause-linked g c =
    let found = searched_moved _ _ _ _ c.search.new.steps.items _ _ (Some c.in-Some.last) refl refl c.in-Some.is c.in_ok-last.ensures in
    subst AreLinkedSteps (sym c.as_slice-in-Some.ensures.value) (linked _ _ _ found.searched.stand)

pub chain_to-requires-clause-within : goal.chain_to-requires-clause-within
chain_to-requires-clause-within g c =
    let found = searched_moved _ _ _ _ c.search.new.steps.items _ _ (Some c.in-Some.last) refl refl c.in-Some.is c.in_ok-last.ensures in
    let l = slice_get_within c.search.new.steps.items c.in-Some.last found.stride found.at in
    omega (arith, l, ap length c.as_slice-in-Some.ensures.value)

pub returns-in-Some-clause-ok : goal.returns-in-Some-clause-ok
returns-in-Some-clause-ok g c =
    let m = (g.C.Closure.state c.args.closure.now).meaning in
    let p = document_of c.args.domain.now c.args.document.now in
    let seeds : c.seeds-seeds.result.now ≡ m.config.seeds = c.seeds-seeds.ensures ∙ ap (λ (x : Configuration). x.seeds) c.config.ensures.config in
    let found = searched_moved _ _ _ _ c.search.new.steps.items p _ (Some c.in-Some.last) seeds c.as_slice.ensures.value c.in-Some.is c.in_ok-last.ensures in
    shortest_found m c.in_ok-waiting.waiting.items c.in_ok-waiting.ensures.trusted c.search.new.steps.items p
    (λ h. both_ways c.is_configured.result c.if-is_configured.false (c.is_configured.ensures.1 (subst (Any (λ s. pair_of_seed s ≡ p)) (sym seeds) h)))
    c.config.ensures.valid c.in-Some.last c.in_ok-chain_to-in-Some.field-0.items found
    (subst (λ steps. IsBackFrom steps (Some c.in-Some.last) (reverse c.in_ok-chain_to-in-Some.field-0.items))
    c.as_slice-in-Some.ensures.value c.in_ok-chain_to-in-Some.ensures)

pub returns-clause-ok : goal.returns-clause-ok
returns-clause-ok g c =
    let m = (g.C.Closure.state c.args.closure.now).meaning in
    let p = document_of c.args.domain.now c.args.document.now in
    let seeds : c.seeds-seeds.result.now ≡ m.config.seeds = c.seeds-seeds.ensures ∙ ap (λ (x : Configuration). x.seeds) c.config.ensures.config in
    let searched = searched_moved _ _ _ _ c.search.new.steps.items p _ None seeds c.as_slice.ensures.value c.in-None.is c.in_ok-last.ensures in
    none_leads m c.in_ok-waiting.waiting.items c.in_ok-waiting.ensures.trusted c.search.new.steps.items p
    (λ h. both_ways c.is_configured.result c.if-is_configured.false (c.is_configured.ensures.1 (subst (Any (λ s. pair_of_seed s ≡ p)) (sym seeds) h)))
    searched
