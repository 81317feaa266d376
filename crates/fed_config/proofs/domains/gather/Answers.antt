use Rattle.std.proofs.Common.{◌++◌, sym, ap, ◌∙◌, append-nil}
use Rattle.std.proofs.lemmas.List.{drop_all}
use Rattle.fed_config.specs.Domains.{gathered}
use Rattle.fed_config.proofs.GatherFacts.{gathered_next, taken_next}
use Rattle.fed_config.proofs.domains.gather.Goals as goal

pub loop-named-preserved : goal.loop-named-preserved
loop-named-preserved c =
    rw (c.in_ok-push-2.ensures.items, c.in_ok-push.ensures.items, c.in_ok-try_clone-2.ensures, c.domain.ensures, c.in_ok-try_clone.ensures)
    (sym (gathered_next c.args.names.now c.args.seeds.now c.loop-named.named-index
    c.named-item.result c.loop-named.domains.items c.loop-named-test.true
    c.named-item.is) ∙ c.loop-named.invariant)

pub loop-seed-init : goal.loop-seed-init
loop-seed-init c =
    sym (ap (λ l. c.loop-named.domains.items ++ gathered l c.args.seeds.now)
    (drop_all c.loop-named.named-index c.args.names.now c.loop-named-test.false))
    ∙ c.loop-named.invariant

pub loop-seed-preserved : goal.loop-seed-preserved
loop-seed-preserved c =
    rw (c.in_ok-push-3.ensures.items, c.in_ok-try_clone-3.ensures)
    (sym (taken_next c.args.seeds.now c.loop-seed.seed-index c.seed-item.result
    c.loop-seed.domains.items c.loop-seed-test.true c.seed-item.is) ∙ c.loop-seed.invariant)

pub returns : goal.returns
returns c = sym (ap (λ l. c.loop-seed.domains.items ++ l)
    (drop_all c.loop-seed.seed-index c.args.seeds.now c.loop-seed-test.false) ∙ append-nil c.loop-seed.domains.items)
    ∙ c.loop-seed.invariant
