use Rattle.std.proofs.Common.{drop, refl}
use Rattle.std.proofs.lemmas.List.{drop_all}
use Rattle.key_view.specs.KnownKeys.{with_authorities, with_listed}
use Rattle.key_view.proofs.DistrustedFacts.{leads_end, leads_more}
use Rattle.key_view.proofs.distrusted_keys.add_authorities.Goals as goal

pub loop-authority-init : goal.loop-authority-init
loop-authority-init g c = λ known has new adds. adds known has

pub loop-authority-preserved : goal.loop-authority-preserved
loop-authority-preserved g c = λ known has.
    leads_more c.args.domain.now (g.C.Closure.state c.args.closure.now).meaning.records with_authorities with_listed (λ ks a others. refl)
    c.authority-item.result c.loop-authority.authority-index c.args.authorities.now _ _ _ c.loop-authority-test.true c.authority-item.is
    (c.loop-authority.invariant known has) c.in_ok-add_listed.ensures

pub returns : goal.returns
returns g c = λ known has.
    leads_end c.args.domain.now (g.C.Closure.state c.args.closure.now).meaning.records with_authorities (λ ks. refl)
    (drop c.loop-authority.authority-index c.args.authorities.now) _ _
    (drop_all c.loop-authority.authority-index c.args.authorities.now c.loop-authority-test.false) (c.loop-authority.invariant known has)
