use Rattle.std.proofs.Common.{◌∙◌, arith, eqb-true}
use Rattle.bucket_sums.proofs.KeptFacts.{first_of_parts}
use Rattle.bucket_sums.proofs.kept_sums.KeptSums.is_same.Goals as goal

pub returns-in-Some : goal.returns-in-Some
returns-in-Some g c = λ yes.
    let k = c.in-Some.kept in
    let at = first_of_parts c.args.self.now.parts.items k c.in-Some.ensures in
    record {
      all = omega (arith, c.args.self.now.parts.ok.0);
      receipts = omega (arith, c.receipt_count.ensures);
      first = k;
      rest = at.0;
      parts = at.1;
      records = eqb-true k.count c.count_of.result yes ∙ c.count_of.ensures;
    }
