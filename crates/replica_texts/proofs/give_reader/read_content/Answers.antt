use Rattle.std.proofs.Common.{◌≡◌, ◌∙◌, Bool, refl, sym, ap, subst}
use Rattle.byte_lines.specs.Streams.{stream_of}
use Rattle.replica_core.specs.State.{State, no_state}
use Rattle.replica_texts.specs.Snapshots.{last_of}
use Rattle.replica_texts.specs.Gives.{content_lines}
use Rattle.replica_texts.specs.Inside.Gathering.{StepsThroughGive, body_content}
use Rattle.replica_texts.proofs.GatherFacts.{gathers-more, gathers-none}
use Rattle.replica_texts.proofs.give_reader.read_content.Goals as goal

pub lines-init : goal.lines-init
lines-init g c =
    let start = body_content (record { distrusts = c.new.result; receipts = c.new-2.result; last = c.new-3.result }) in
    let none : start ≡ no_state = (λ i. record { held = c.new-2.ensures.items i; records = c.new.ensures.items i }) in
    record {
      gathers = gathers-none c.args.head.now.count c.args.head.now.distrusts (stream_of g.R.Source.remaining c.args.lines.now c.args.source.now) start none;
      last = c.new-3.ensures.items ∙ sym (ap (λ (s : State). last_of (content_lines s)) none);
      fault = refl;
    }

pub lines-preserved : goal.lines-preserved
lines-preserved g c =
    let stream = stream_of g.R.Source.remaining c.args.lines.now c.args.source.now in
    let before = stream_of g.R.Source.remaining c.lines.lines c.lines.source in
    let after = stream_of g.R.Source.remaining c.read_next.new.lines c.read_next.new.source in
    let old = body_content c.lines.content in
    let new = body_content c.read_next.new.content in
    record {
      gathers = gathers-more c.args.head.now.count c.args.head.now.distrusts stream before after old new c.lines.invariant.gathers
          (subst (λ (more : Bool). StepsThroughGive c.args.head.now.count c.args.head.now.distrusts old before new
          after more) c.if-branch.true c.in_ok-read_next.ensures.ok);
      last = c.in_ok-read_next.ensures.last;
      fault = c.in_ok-read_next.ensures.fault ∙ c.lines.invariant.fault;
    }
