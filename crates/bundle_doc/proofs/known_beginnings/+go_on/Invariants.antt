use Rattle.std.proofs.Common.{length}
use Rattle.bundle_doc.proofs.known_beginnings.+go_on.Given as goal

abbrev pub decreases-go_on : goal.decreases-go_on
decreases-go_on l = length l.text.now
