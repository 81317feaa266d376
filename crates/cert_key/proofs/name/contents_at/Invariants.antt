use Rattle.std.proofs.Common.{length}
use Rattle.cert_key.proofs.ContentFacts.{Reads}
use Rattle.cert_key.proofs.name.contents_at.Given as goal

abbrev pub invariant-elements : goal.invariant-elements
invariant-elements l = Reads l.tag l.bytes l.contents.items l.rest

abbrev pub decreases-elements : goal.decreases-elements
decreases-elements l = length l.rest
