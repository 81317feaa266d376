-- The ids so far, and what lists the others.
use Rattle.std.proofs.Common.{length, map}
use Rattle.std.specs.List.{AllByRecursion}
use Rattle.receipt_core.specs.Receipt.{IsDigest}
use Rattle.replica_texts.proofs.IdListFacts.{Lists}
use Rattle.replica_texts.proofs.id_list.read_ids.Given as goal

abbrev pub invariant-ids : goal.invariant-ids
invariant-ids l = record {
  lists : Lists l.text (map (λ id. id.0) l.ids.items) l.rest;
  digests : AllByRecursion IsDigest (map (λ id. id.0) l.ids.items);
}

abbrev pub decreases-ids : goal.decreases-ids
decreases-ids l = length l.rest
