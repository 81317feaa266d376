use Rattle.std.proofs.Common.{◌∙◌, ap, map}
use Rattle.bucket_sums.proofs.KeptFacts.{sums_taken_out}
use Rattle.bucket_sums.proofs.SumFacts.{bytes_of}
use Rattle.bucket_sums.proofs.kept_sums.copied.Goals as goal

pub returns : goal.returns
returns c = c.of_all.ensures ∙ ap (map bytes_of) c.in_ok-sums.ensures ∙ sums_taken_out c.args.parts.now
