use Rattle.std.proofs.Common.{ℕ, ◌-◌, ◌∙◌, sym, ap, map, take, length}
use Rattle.std.specs.Prelude.{slice_get}
use Rattle.replica_core.specs.Inside.ReplicasInMemory.{content_of, message_of, give_in_message}
use Rattle.replica_core.specs.declared.event.Event.TheVariants.{Part}
use Rattle.replica_core.proofs.ReplicaFacts.{gain-follows, part-gains}
use Rattle.replica_core.proofs.replicas_in_memory.part.Goals as goal

pub returns : goal.returns
returns g c =
    gain-follows (λ closure. (g.C.Closure.state closure).meaning) c.args.config.now c.args.replicas.now
    c.gain.new.replicas (Part c.args.replica c.args.place c.args.count) c.args.replica
    (g.C.Closure.state c.in_ok-more.more).meaning c.gain.result c.gain.ensures
    (λ n w p.
    let stated = sym (c.in-Some.ensures ∙ ap (λ sent. give_in_message (slice_get (map message_of sent) c.args.place))
    c.as_slice.ensures.value ∙ ap (λ sent. give_in_message (slice_get sent c.args.place)) p.sent) in
    let content = content_of c.in-Some.content.now in
    part-gains c.args.config.now n w c.args.replica c.args.place c.args.count content c.first-2.result.now
    c.first.result.now (g.C.Closure.state c.in_ok-more.more).meaning p.sound
    stated
    (c.first-2.ensures ∙ ap (take c.saturating_sub-others.result) c.as_slice-receipts.ensures.value
    ∙ ap (λ (k : ℕ). take k content.held) (c.saturating_sub-others.ensures ∙ ap (λ xs. c.args.count - length xs) c.as_slice-records.ensures.value))
    (c.first.ensures ∙ ap (take c.args.count) c.as_slice-records.ensures.value) c.in_ok-more.ensures)
