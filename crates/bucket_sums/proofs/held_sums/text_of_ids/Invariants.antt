-- The text so far, with the ids that are still to come, is all.
use Rattle.std.proofs.Common.{◌≡◌, ◌++◌, drop}
use Rattle.std.specs.List.{flat_map}
use Rattle.bucket_sums.proofs.HeldFacts.{id_bytes}
use Rattle.bucket_sums.proofs.held_sums.text_of_ids.Given as goal

abbrev pub invariant-loop-id : goal.invariant-loop-id
invariant-loop-id l = l.text.items ++ flat_map id_bytes (drop l.id-index l.ids) ≡ flat_map id_bytes l.ids
