use Rattle.std.proofs.Common.{◌∙◌, sym, ap, map}
use Rattle.std.specs.Prelude.{slice_get}
use Rattle.replica_core.specs.Inside.ReplicasInMemory.{content_of, message_of, give_in_message}
use Rattle.replica_core.specs.declared.event.Event.TheVariants.{Absorb}
use Rattle.replica_core.proofs.ReplicaFacts.{gain-follows, absorb-gains}
use Rattle.replica_core.proofs.replicas_in_memory.absorb.Goals as goal

pub returns : goal.returns
returns g c =
    gain-follows (λ closure. (g.C.Closure.state closure).meaning) c.args.config.now c.args.replicas.now
    c.gain.new.replicas (Absorb c.args.replica c.args.place) c.args.replica
    (g.C.Closure.state c.in_ok-more.more).meaning c.gain.result c.gain.ensures
    (λ n w p.
    let stated = sym (c.in-Some.ensures ∙ ap (λ sent. give_in_message (slice_get (map message_of sent) c.args.place))
    c.as_slice.ensures.value ∙ ap (λ sent. give_in_message (slice_get sent c.args.place)) p.sent) in
    absorb-gains c.args.config.now n w c.args.replica c.args.place (content_of c.in-Some.content.now)
    c.as_slice-receipts.result.now c.as_slice-records.result.now (g.C.Closure.state c.in_ok-more.more).meaning
    p.sound
    stated c.as_slice-receipts.ensures.value c.as_slice-records.ensures.value c.in_ok-more.ensures)
