use Rattle.std.proofs.Common.{length, arith}
use Rattle.wait_index.specs.Inside.Listing.{holds}
use Rattle.wait_index.proofs.CountBelowFacts.{count_below-le}
use Rattle.wait_index.proofs.marks.Marks.take_back.Goals as goal

pub labels-smaller : goal.labels-smaller
labels-smaller g c =
    let t = c.labels.self.touched in
    let f = c.labels.invariant.falling in
    omega (
      arith,
      c.labels-test.true,
      c.len.ensures,
      t.items.ok.0,
      f.queue.many,
      f.sizes.touched,
      count_below-le (λ n. holds t.places.items n) (length t.places.items),
    )
