use Rattle.std.proofs.Common.{length, arith}
use Rattle.wait_index.specs.Inside.Listing.{holds}
use Rattle.wait_index.proofs.CountBelowFacts.{count_below-le}
use Rattle.wait_index.proofs.label_set.LabelSet.try_reserve.Goals as goal

pub overflow_sub-unlisted : goal.overflow_sub-unlisted
overflow_sub-unlisted c =
    let s = c.args.self.now in
    omega (
      arith,
      count_below-le (λ n. holds s.places.items n) (length s.places.items),
      s.listed.many,
      s.items.ok.0,
      c.len.ensures,
      c.len-2.ensures,
      s.places.ok.0,
      c.in_ok-try_reserve.ensures.len,
    )
