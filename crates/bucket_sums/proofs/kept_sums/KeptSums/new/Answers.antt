use Rattle.std.proofs.Common.{refl}
use Rattle.bucket_sums.proofs.KeptFacts.{kept_none}
use Rattle.bucket_sums.proofs.kept_sums.KeptSums.new.Goals as goal

pub returns : goal.returns
returns c state = kept_none _ c.new.ensures.items refl state
