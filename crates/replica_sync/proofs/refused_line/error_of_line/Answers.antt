use Rattle.std.proofs.Common.{◌∙◌, ◌+◌, List, ℕ, drop, inl, refl, subst, sym, ap, length, arith}
use Rattle.std.proofs.lemmas.List.{drop_all}
use Rattle.std.specs.Io.KnownBytes.{prepend_known}
use Rattle.byte_lines.specs.Ahead.{IsFeed, ahead_of}
use Rattle.byte_lines.specs.Lines.{HasNoFeed}
use Rattle.byte_lines.proofs.StreamFacts.{Went, went_all, went_kept, went_to_feed}
use Rattle.replica_sync.proofs.refused_line.error_of_line.Goals as goal

pub returns-in-Some-clause-line : goal.returns-in-Some-clause-line
returns-in-Some-clause-line g c =
    let rest = g.R.Source.remaining c.fill.new.source in
    let piece = ahead_of c.fill.new.self in
    let place = c.in-Some.field-0 in
    let found = went_to_feed _ rest piece place (went_kept _ _ _ c.pieces.invariant.went c.in_ok-fill.ensures.bytes)
    (subst (λ (l : List ℕ). IsFeed l place) c.as_slice-piece.ensures c.in-Some.ensures) in
    inl (refl, (found.0, prepend_known (drop (place + 1) piece) rest, found.1))

pub pieces-preserved : goal.pieces-preserved
pieces-preserved g c =
    let first = prepend_known (ahead_of c.args.ahead.now) (g.R.Source.remaining c.args.source.now) in
    let rest = g.R.Source.remaining c.fill.new.source in
    let went = went_kept _ _ _ c.pieces.invariant.went c.in_ok-fill.ensures.bytes in
    let plain = subst HasNoFeed c.as_slice-piece.ensures c.in_default.ensures in
    let size = ap length c.as_slice-piece.ensures in
    let none = c.pass.ensures.bytes ∙ drop_all (length c.as_slice-piece.result.now) (ahead_of c.fill.new.self) (omega (arith, size)) in
    record {
      room = omega (arith, c.pass.ensures.room, c.in_ok-fill.ensures.room);
      went = subst (λ (l : List ℕ). Went first (prepend_known l rest)) (sym none) (went_all first rest (ahead_of c.fill.new.self) went plain);
      sound = c.in_ok-fill.ensures.fault ∙ c.pieces.invariant.sound;
    }
