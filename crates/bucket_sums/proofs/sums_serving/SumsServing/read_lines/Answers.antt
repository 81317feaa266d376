use Rattle.std.proofs.Common.{◌∙◌, length, length-drop, ap, arith, subst}
use Rattle.std.proofs.lemmas.List.{take_rest}
use Rattle.bucket_sums.specs.Serving.{HasTakenQuestion}
use Rattle.bucket_sums.proofs.ReadFacts.{taken_all, taken_on}
use Rattle.bucket_sums.proofs.sums_serving.SumsServing.read_lines.Goals as goal

pub returns-then-more-eq0-clause-takes : goal.returns-then-more-eq0-clause-takes
returns-then-more-eq0-clause-takes c came h =
    let piece = c.args.piece.now in
    subst (HasTakenQuestion c.args.config.now c.read.new.self) (taken_on came piece c.lines.used c.in-Ok.more c.lines.invariant.within)
    (c.in-Ok.ensures.takes _ (c.lines.invariant.takes came h))

pub lines-preserved : goal.lines-preserved
lines-preserved c =
    let piece = c.args.piece.now in
    let few = c.lines.invariant.within in
    let more = c.in-Ok.ensures.within in
    let left = ap length (take_rest piece c.lines.used) ∙ length-drop c.lines.used piece in
    record {
      takes = λ came h.
          subst (HasTakenQuestion c.args.config.now c.read.new.self) (taken_on came piece c.lines.used c.in-Ok.more few)
          (c.in-Ok.ensures.takes _ (c.lines.invariant.takes came h));
      own = c.in-Ok.ensures.own ∙ c.lines.invariant.own;
      within = omega (arith, few, more, left);
    }

pub returns-in-Err-clause-takes : goal.returns-in-Err-clause-takes
returns-in-Err-clause-takes c came h =
    subst (HasTakenQuestion c.args.config.now c.read.new.self) (taken_all came c.args.piece.now c.lines.used)
    (c.in-Err.ensures.takes _ (c.lines.invariant.takes came h))
