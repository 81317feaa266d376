use Rattle.std.proofs.Common.{sym}
use Rattle.bucket_sums.proofs.SumFacts.{lines-pushed}
use Rattle.bucket_sums.proofs.part_sums.Sums.push_lines.Goals as goal

pub returns : goal.returns
returns c = lines-pushed c.args.out.now.items c.loop-sum.out.items c.deref-sum-items.result.now c.self.inside.sums.items c.args.self.now
    c.loop-sum.sum-index c.loop-sum-test.false c.loop-sum.invariant c.deref-sum-items.ensures.value (sym c.self.view_is)
