use Rattle.std.proofs.Common.{◌≡◌, [], length, string_bytes}
use Rattle.cert_key.specs.Inside.Names.{attribute_at}
use Rattle.cert_key.specs.Name.{joined_texts}
use Rattle.cert_key.proofs.name.joined_attributes.Given as goal

abbrev pub invariant-attributes : goal.invariant-attributes
invariant-attributes l =
    joined_texts 43 attribute_at (string_bytes l.text) l.rest ≡ joined_texts 43 attribute_at [] l.contents

abbrev pub decreases-attributes : goal.decreases-attributes
decreases-attributes l = length l.rest
