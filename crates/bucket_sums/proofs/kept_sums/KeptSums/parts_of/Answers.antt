use Rattle.std.proofs.Common.{◌≡◌, ◌+◌, ◌∙◌, ℕ, sym, subst, ap, arith, length, length-append, ◌∷◌, []}
use Rattle.replica_core.specs.Session.{state_of}
use Rattle.bucket_sums.specs.Inside.KeptSteps.{ArePartSums, IsSumOf}
use Rattle.bucket_sums.proofs.KeptFacts.{sums_more}
use Rattle.bucket_sums.proofs.kept_sums.KeptSums.parts_of.Goals as goal

pub places-preserved : goal.places-preserved
places-preserved g c =
    let state = state_of (g.C.Closure.state c.args.closure.now).meaning in
    let old = c.places.parts.items in
    let counted = c.in_ok-counted.counted in
    let many = c.places.invariant.all in
    let longer = length-append old (counted ∷ []) in
    let items = c.in_ok-push.ensures.items in
    let at : c.places.part ≡ 0 + length old = omega (arith, many) in
    record {
      all = ap length items ∙ omega (arith, many, longer);
      sums = subst (ArePartSums state 0) (sym items)
          (sums_more state 0 old counted c.places.invariant.sums (subst (λ (n : ℕ). IsSumOf state n counted) at c.in_ok-counted.ensures));
    }
