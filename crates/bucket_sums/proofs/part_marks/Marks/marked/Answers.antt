use Rattle.std.proofs.Common.{◌∙◌, ◌<◌, ◌≤◌, ◌+◌, ◌++◌, length, drop, sym, ap, arith}
use Rattle.bucket_sums.specs.Sessions.{marked_from}
use Rattle.bucket_sums.proofs.MarkedFacts.{all_marked, none_marked, one_marked}
use Rattle.bucket_sums.proofs.part_marks.Marks.marked.Goals as goal
use Rattle.bucket_sums.proofs.part_marks.Marks.marked.Goals.{then-bucket+in_ok-push, else-bucket}

pub buckets-preserved : goal.buckets-preserved
buckets-preserved c =
    let marks = c.args.self.now in
    let bucket = c.buckets.bucket in
    let old = c.buckets.buckets.items in
    let all = sym (ap length c.self.view_is) ∙ c.self.invariant in
    let within : bucket + 1 < length marks = omega (arith, all) in
    elim c.if-bucket.branch [
      | then-bucket+in_ok-push w ↦
          one_marked marks bucket old c.if-bucket.buckets.items _ within (sym c.bucket.ensures ∙ w.if-bucket.true)
          (ap (λ v. v.items) w.buckets-is ∙ w.in_ok-push.ensures.items) c.buckets.invariant
      | else-bucket w ↦
          ap (λ v. v.items ++ marked_from (bucket + 1) (drop ((bucket + 1) + 1) marks)) w.buckets-is
          ∙ none_marked marks bucket old _ within (sym c.bucket.ensures ∙ w.if-bucket.false) c.buckets.invariant
    ]

pub returns-clause-buckets : goal.returns-clause-buckets
returns-clause-buckets c =
    let marks = c.args.self.now in
    let all = sym (ap length c.self.view_is) ∙ c.self.invariant in
    let over : length marks ≤ c.buckets.bucket + 1 = omega (arith, all) in
    all_marked marks c.buckets.bucket c.buckets.buckets.items _ over c.buckets.invariant
