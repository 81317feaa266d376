use Rattle.std.proofs.Common.{inl, ap, arith, length}
use Rattle.bucket_sums.proofs.KeptFacts.{few_in_bucket}
use Rattle.bucket_sums.proofs.kept_sums.bucket_count.Goals as goal

pub count-requires-clause-fits : goal.count-requires-clause-fits
count-requires-clause-fits g c =
    let few = few_in_bucket (g.C.Closure.state c.args.closure.now).meaning c.args.bucket c.config-valid.ensures.valid in
    let same = ap length c.receipts_of.ensures in
    inl (omega (arith, few, same))
