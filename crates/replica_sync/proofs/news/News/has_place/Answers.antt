use Rattle.std.proofs.Common.{◌≡◌, sym, ◌∙◌, subst, arith}
use Rattle.std.specs.declared.cmp.Ordering.TheVariants.{Less}
use Rattle.std.specs.List.{AllByRecursion}
use Rattle.fed_config.specs.Configuration.{Configuration, HasDomain}
use Rattle.receipt_core.specs.declared.distrust.Distrust.{Distrust}
use Rattle.receipt_core.specs.Receipt.{distrust_cmp}
use Rattle.replica_core.proofs.UnwelcomeFacts.{known}
use Rattle.replica_sync.proofs.news.News.has_place.Goals as goal

pub returns : goal.returns
returns g c = λ yes.
    let m = (g.C.Closure.state c.args.closure.now).meaning in
    let x = c.args.distrust.now in
    let own : c.config-config.result.now ≡ m.config = c.config-config.ensures.config in
    let some = c.if-self-eq0.false in
    record {
      unheld = c.requires.unheld;
      domain = subst (λ (k : Configuration). HasDomain k x.domain) own
          (known c.config-config.result.now x.domain c.domains-form.result.now c.domain_no.result
          c.domains-form.ensures.all c.domain_no.ensures (sym c.is_some.ensures ∙ yes));
      above = subst (AllByRecursion (λ (y : Distrust). distrust_cmp y x ≡ Less)) c.as_slice.ensures.value
          (c.is_above.ensures c.if-not-is_above.false);
      place = omega (arith, some);
    }
