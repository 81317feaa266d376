use Rattle.std.proofs.Common.{◌≡◌, ◌+◌, ◌<◌, ◌≤◌, ◌-◌, length, arith, subst, refl, take, ◌++◌}
use Rattle.replica_sync.specs.Pieces.{kept_part, EndsLine, IsOverlong, piece_run}
use Rattle.replica_sync.proofs.CutFacts.{ends_line, kept_open, overlong}
use Rattle.replica_sync.proofs.line_part.LinePart.take.Goals as goal

pub returns-then-count-self-clause-takes : goal.returns-then-count-self-clause-takes
returns-then-count-self-clause-takes c =
    let part = c.begin.new.self in
    let piece = c.args.piece.now in
    let count = c.unwrap_or-count.result in
    let same : part.line.items ≡ kept_part c.args.self.now =
    kept_open part.has_ended part.line.items (kept_part c.args.self.now) c.begin.ensures.open c.begin.ensures.kept in
    let over : part.limit - length part.line.items < count = omega arith in (
      subst (λ l. IsOverlong c.args.self.now.limit (l ++ piece)) same
          (subst (λ n. IsOverlong n (part.line.items ++ piece)) c.begin.ensures.limit
          (overlong part.limit part.line.items piece c.line_feed-place.result count part.unbroken c.line_feed-place.ensures c.unwrap_or-count.ensures over)),
      c.begin.ensures.kept,
    )

pub returns-clause-takes : goal.returns-clause-takes
returns-clause-takes c =
    let part = c.begin.new.self in
    let piece = c.args.piece.now in
    let count = c.unwrap_or-count.result in
    let same : part.line.items ≡ kept_part c.args.self.now =
    kept_open part.has_ended part.line.items (kept_part c.args.self.now) c.begin.ensures.open c.begin.ensures.kept in
    let few : count ≤ part.limit - length part.line.items = omega arith in
    let room : length part.line.items ≤ part.limit = omega (arith, part.within) in
    let made : c.extend_from_slice.new.self.items ≡ part.line.items ++ take count piece = c.in_ok-extend_from_slice.ensures.items in (
      subst (λ l. EndsLine (piece_run c.args.self.now.limit l piece) (count + 1) c.extend_from_slice.new.self.items) same
          (subst (λ n. EndsLine (piece_run n part.line.items piece) (count + 1) c.extend_from_slice.new.self.items) c.begin.ensures.limit
          (ends_line part.limit part.line.items piece c.extend_from_slice.new.self.items c.line_feed-place.result count part.unbroken
          c.line_feed-place.ensures c.unwrap_or-count.ensures room few c.if-is_none.ensures made)),
      refl,
    )
