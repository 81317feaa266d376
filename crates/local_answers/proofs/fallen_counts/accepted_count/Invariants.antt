use Rattle.std.proofs.Common.{◌≡◌, ◌+◌, ◌-◌, ◌^◌, length, min}
use Rattle.local_answers.proofs.fallen_counts.accepted_count.Given as goal

abbrev pub invariant-loop-document : goal.invariant-loop-document
invariant-loop-document g l =
    min (l.count + length l.document-iterator) (2 ^ 64 - 1) ≡ min (length l.initial.document-iterator) (2 ^ 64 - 1)
