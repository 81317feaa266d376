use Rattle.bucket_sums.proofs.KeptFacts.{kept_part_is}
use Rattle.bucket_sums.proofs.kept_sums.KeptSums.counted.Goals as goal

pub returns-then-kept-count : goal.returns-then-kept-count
returns-then-kept-count g c =
    kept_part_is c.args.self.now (g.C.Closure.state c.args.closure.now).meaning c.args.part c.count_of-count.result c.in-Some.kept c.requires.valid
    c.in-Some.ensures c.if-kept-count.true c.count_of-count.ensures c.requires.kept

pub returns : goal.returns
returns g c = record { count = c.count_of-count.ensures; sum = c.in_ok-sum.ensures }
