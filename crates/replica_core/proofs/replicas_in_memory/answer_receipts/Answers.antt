use Rattle.std.proofs.Common.{◌∙◌, refl, sym, ap, map}
use Rattle.std.specs.Prelude.{slice_get}
use Rattle.replica_core.specs.World.{give_sent}
use Rattle.replica_core.specs.Inside.ReplicasInMemory.{message_of, have_in_message}
use Rattle.replica_core.specs.declared.message.Message.TheVariants.{Give}
use Rattle.replica_core.proofs.ReplicaFacts.{receipts-follow, here}
use Rattle.replica_core.proofs.replicas_in_memory.answer_receipts.Goals as goal

pub returns : goal.returns
returns g c =
    λ config n w p.
    let found = here (λ closure. (g.C.Closure.state closure).meaning) config n c.args.replicas.now.held.items
    c.deref.result.now w.now c.args.replica c.in-Some.closure.now p.held c.deref.ensures.value
    c.in-Some.ensures.lookup.3.0 c.in-Some.ensures.lookup.1 in
    let asking =
    sym (c.in-Some-have_at.ensures ∙ ap (λ sent. have_in_message (slice_get (map message_of sent) c.args.place))
    c.as_slice.ensures.value ∙ ap (λ sent. have_in_message (slice_get sent c.args.place)) p.sent) in
    receipts-follow (λ closure. (g.C.Closure.state closure).meaning) config n c.args.replicas.now
    (record c.args.replicas.now { sent = c.push.new.self }) w c.args.replica c.args.place
    (g.C.Closure.state c.in-Some.closure.now).meaning c.in-Some-have_at.have.now.bucket
    c.in-Some-have_at.have.now.ids (Give c.args.replica c.args.place c.in_ok-content.content) found.0 p
    found.1
    c.copy_receipts.ensures.valid asking (ap (give_sent c.args.replica c.args.place) c.in_ok-content.ensures.copies) refl refl c.in_ok-push.ensures.items
