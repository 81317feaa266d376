use Rattle.std.proofs.Common.{◌≡◌, [], length, string_bytes}
use Rattle.cert_key.specs.Inside.Names.{rdn_at}
use Rattle.cert_key.specs.Name.{joined_texts}
use Rattle.cert_key.proofs.name.joined_rdns.Given as goal

abbrev pub invariant-rdns : goal.invariant-rdns
invariant-rdns l =
    joined_texts 44 rdn_at (string_bytes l.text) l.rest ≡ joined_texts 44 rdn_at [] l.contents

abbrev pub decreases-rdns : goal.decreases-rdns
decreases-rdns l = length l.rest
