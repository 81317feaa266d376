use Rattle.std.proofs.Common.{◌+◌, ◌<◌, length, arith, inl, inr}
use Rattle.std.proofs.lemmas.Bool.{cases_lt}
use Rattle.sorted_order.proofs.SumFacts.{sum_next, sum_all}
use Rattle.sorted_order.proofs.sums.group_at.Goals as goal

pub loop-group-preserved : goal.loop-group-preserved
loop-group-preserved c =
    let xs = c.args.sums.now in
    let g = c.loop-group.group in
    let h = c.loop-group.invariant in
    let next = sum_next xs g h.listed in
    let listed : g + 1 < length xs = elim (cases_lt (g + 1) (length xs)) [
      | inl some ↦ some
      | inr end ↦ absurd (omega (
        arith,
        sum_all xs (g + 1) end,
        next,
        c.loop-group-test.true,
        h.whole,
        c.requires.place,
      ))
    ] in
    record {
      listed = listed;
      whole = omega (arith, next, h.whole, c.loop-group-test.true);
      earlier = λ p. omega (arith, c.loop-group-test.true);
      later = λ p. omega (arith, c.loop-group-test.true);
    }
