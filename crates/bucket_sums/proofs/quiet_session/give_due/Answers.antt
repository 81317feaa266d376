use Rattle.std.proofs.Common.{◌∙◌, List, ℕ, refl, subst, sym, take}
use Rattle.std.proofs.KnownBytes.{Keeps-refl}
use Rattle.std.specs.Io.KnownBytes.{Appends}
use Rattle.bucket_sums.proofs.QuietServeFacts.{gives_kept, gives_more, gives_none}
use Rattle.bucket_sums.proofs.quiet_session.give_due.Goals as goal

pub pieces-init : goal.pieces-init
pieces-init g c =
    let sink = g.W.Sink.contents c.args.sink.now in
    record { gives = gives_none c.args.session.now sink sink (Keeps-refl sink); turns = refl; found = refl; sink = refl }

pub returns-in_err-given-clause-gives : goal.returns-in_err-given-clause-gives
returns-in_err-given-clause-gives g c =
    gives_kept c.args.session.now c.pieces.session (g.W.Sink.contents c.args.sink.now) (g.W.Sink.contents c.pieces.sink)
    (g.W.Sink.contents c.write.new.self) c.pieces.invariant.gives c.in_err-given.ensures.appends

pub pieces-preserved : goal.pieces-preserved
pieces-preserved g c =
    let now = g.W.Sink.contents c.pieces.sink in
    let new = g.W.Sink.contents c.write.new.self in
    let count = c.in_ok-given.given in
    record {
      gives = gives_more c.args.session.now c.pieces.session c.wrote.new.self (g.W.Sink.contents c.args.sink.now) now new _ c.pieces.invariant.gives
          (subst (λ (l : List ℕ). Appends now new (take count l)) c.output-in-pieces.ensures c.in_ok-given.ensures.appends) c.wrote.ensures.serves;
      turns = c.wrote.ensures.turns ∙ c.pieces.invariant.turns;
      found = c.wrote.ensures.fault ∙ c.pieces.invariant.found;
      sink = c.in_ok-given.ensures.fault ∙ sym (c.in_ok-given.ensures.lasting) ∙ c.pieces.invariant.sink;
    }
