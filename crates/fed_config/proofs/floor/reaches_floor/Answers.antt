use Rattle.std.proofs.Common.{refl, sym, subst}
use Rattle.fed_config.specs.Configuration.{Reaches}
use Rattle.fed_config.proofs.floor.reaches_floor.Goals as goal

pub returns-in-Some : goal.returns-in-Some
returns-in-Some c =
    let some = c.in-Some.ensures.0 in (
      λ stated f has same. subst (λ n. Reaches n c.args.document.now) (sym (c.in-Some.ensures.1 f has same)) (c.reaches.ensures.0 stated),
      λ each. c.reaches.ensures.1 (subst (λ n. Reaches n c.args.document.now) (c.in-Some.ensures.1 some.0 some.1 some.2)
          (each some.0 some.1 some.2)),
    )

pub returns-in-None : goal.returns-in-None
returns-in-None c = (λ stated f has same. absurd (c.in-None.ensures f has same), λ each. refl)
