-- Each configured document is of a domain of the configuration.
use Rattle.std.proofs.Common.{sym, subst, arith}
use Rattle.fed_config.specs.declared.seed.Seed.{Seed}
use Rattle.fed_config.specs.Configuration.{HasDomain}
use Rattle.trust_closure.proofs.seeds.add_seeds.Goals as goal

pub add_seed-requires-clause-domain : goal.add_seed-requires-clause-domain
add_seed-requires-clause-domain c =
    subst (λ (s : Seed). HasDomain c.args.held.now.config s.domain) (sym c.index-seeds-place.is)
    (c.requires.domains c.loop-place.place c.index-seeds-place.result (omega arith))
