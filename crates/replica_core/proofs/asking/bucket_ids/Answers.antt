use Rattle.std.proofs.Common.{ap, ◌∙◌}
use Rattle.std.specs.Prelude.{map}
use Rattle.std.proofs.lemmas.List.Filters.{dedup_is}
use Rattle.closure_core.specs.AcceptedList.{receipts_in}
use Rattle.replica_core.proofs.HaveFacts.{bytes_of}
use Rattle.replica_core.proofs.IdFacts.{are-held}
use Rattle.replica_core.proofs.asking.bucket_ids.Goals as goal

pub returns : goal.returns
returns g c =
    ap (map bytes_of) (dedup_is _ _ _ c.dedup.ensures.filtered)
    ∙ are-held (receipts_in c.args.bucket (g.C.Closure.state c.args.closure.now).meaning.held) _ _ c.in_ok-ids.ensures
    c.sort_unstable.ensures.permutation c.sort_unstable.ensures.sorted
