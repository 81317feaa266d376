use Rattle.std.proofs.Common.{◌≡◌, ◌+◌, take, get_or, sym, ap, ◌∙◌, subst}
use Rattle.std.proofs.lemmas.List.Sums.{fold_push}
use Rattle.replica_core.specs.World.{empty_world, happens, rules_of, run}
use Rattle.replica_core.specs.Inside.ReplicasInMemory.{Plays}
use Rattle.replica_core.proofs.UnwelcomeFacts.{take-next}
use Rattle.replica_core.proofs.world.run_world.Goals as goal

pub loop-event-preserved : goal.loop-event-preserved
loop-event-preserved g c =
    let rules = rules_of c.args.config.now c.args.n in
    let events = c.args.events.now in
    let i = c.loop-event.event-index in
    let event = c.event-item.result in
    let at : get_or events i event ≡ event = sym c.event-item.is in
    let next : run rules (take (i + 1) events) ≡ happens rules (run rules (take i events)) event =
    ap (run rules) (take-next events i event c.loop-event-test.true at) ∙ fold_push (happens rules) empty_world (take i events) event in
    subst (Plays (λ closure. (g.C.Closure.state closure).meaning) c.args.config.now c.args.n c.play.new.replicas) (sym next)
    (c.in_ok-play.ensures c.args.n (run rules (take i events)) c.loop-event.invariant)
