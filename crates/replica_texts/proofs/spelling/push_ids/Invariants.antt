use Rattle.std.proofs.Common.{◌≡◌, ◌++◌, drop}
use Rattle.std.specs.List.{flat_map}
use Rattle.replica_texts.proofs.PieceFacts.{later_id}
use Rattle.replica_texts.proofs.spelling.push_ids.Given as goal

abbrev pub invariant-loop-id : goal.invariant-loop-id
invariant-loop-id l = l.out.items ++ flat_map later_id (drop l.id-index l.others) ≡ l.initial.out.items ++ flat_map later_id l.others
