use Rattle.bucket_sums.proofs.MarkFacts.{no_marks, read_marks}
use Rattle.bucket_sums.proofs.part_marks.Marks.read.Goals as goal

pub returns-then-not-are_marks : goal.returns-then-not-are_marks
returns-then-not-are_marks c = no_marks c.args.text.now (λ pass. let yes = c.are_marks.ensures.1 pass in let no = c.if-not-are_marks.true in cc)

pub returns : goal.returns
returns c = read_marks c.args.text.now c.in_ok-marks.marks.items c.new.result (c.are_marks.ensures.0 c.if-not-are_marks.false)
    c.in_ok-marks.ensures c.new.ensures
