-- The text so far, with the records that are still to come, is all.
use Rattle.std.proofs.Common.{◌≡◌, ◌++◌}
use Rattle.std.specs.List.{flat_map}
use Rattle.replica_texts.specs.Messages.{record_text}
use Rattle.bucket_sums.proofs.held_sums.text_of_records.Given as goal

abbrev pub invariant-loop-domain : goal.invariant-loop-domain
invariant-loop-domain l = l.text.items ++ flat_map record_text l.domain-iterator ≡ flat_map record_text l.initial.domain-iterator
