use Rattle.std.proofs.Common.{◌≡◌, [], drop, refl, subst}
use Rattle.std.proofs.lemmas.List.{drop_all}
use Rattle.key_view.specs.KnownKeys.{with_authorities, with_documents}
use Rattle.key_view.specs.Inside.Distrusted.{Adds}
use Rattle.key_view.proofs.DistrustedFacts.{distrusted_none, leads_end, leads_more}
use Rattle.key_view.proofs.distrusted_keys.keys_of_accepted.Goals as goal

pub loop-bundle-init : goal.loop-bundle-init
loop-bundle-init g c = λ new adds.
    adds [] (distrusted_none c.args.domain.now (g.C.Closure.state c.args.closure.now).meaning.records _ c.new.ensures.empty c.new-2.ensures.empty)

pub loop-bundle-preserved : goal.loop-bundle-preserved
loop-bundle-preserved g c =
    let same : c.authorities.result.now ≡ c.bundle-item.result.authorities = cc in
    leads_more c.args.domain.now (g.C.Closure.state c.args.closure.now).meaning.records with_documents (λ ks d. with_authorities ks d.authorities)
    (λ ks d ds. refl) c.bundle-item.result c.loop-bundle.bundle-index c.args.accepted.now _ _ _ c.loop-bundle-test.true c.bundle-item.is
    c.loop-bundle.invariant
    (subst (λ xs. Adds c.args.domain.now (g.C.Closure.state c.args.closure.now).meaning.records (λ known. with_authorities known xs)
    c.loop-bundle.found c.add_authorities.new.found) same c.in_ok-add_authorities.ensures)

pub returns : goal.returns
returns g c =
    leads_end c.args.domain.now (g.C.Closure.state c.args.closure.now).meaning.records with_documents (λ ks. refl)
    (drop c.loop-bundle.bundle-index c.args.accepted.now) _ _
    (drop_all c.loop-bundle.bundle-index c.args.accepted.now c.loop-bundle-test.false) c.loop-bundle.invariant
