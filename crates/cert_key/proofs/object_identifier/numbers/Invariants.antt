use Rattle.std.proofs.Common.{◌≡◌, ◌<◌, ◌^◌, [], length}
use Rattle.cert_key.specs.Name.{numbers_from}
use Rattle.cert_key.proofs.object_identifier.numbers.Given as goal

abbrev pub invariant-bytes : goal.invariant-bytes
invariant-bytes l = record {
  same : numbers_from l.numbers.items l.value l.rest ≡ numbers_from [] 0 l.content;
  short : l.value < 2 ^ 56;
}

abbrev pub decreases-bytes : goal.decreases-bytes
decreases-bytes l = length l.rest
