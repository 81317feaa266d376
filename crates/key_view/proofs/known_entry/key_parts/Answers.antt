use Rattle.std.proofs.Common.{List, ℕ, Some, subst}
use Rattle.cert_key.specs.Certificate.{lent_parts}
use Rattle.key_view.specs.KeyEntries.{IsKeyParts}
use Rattle.key_view.proofs.PartFacts.{texts_read}
use Rattle.key_view.proofs.known_entry.key_parts.Goals as goal

pub returns-in_ok-texts_of-in-Some : goal.returns-in_ok-texts_of-in-Some
returns-in_ok-texts_of-in-Some c =
    let found = c.in-Some.ensures.found in
    let parts = c.in_ok-texts_of-in-Some.field-0 in
    subst (λ (der : List ℕ). IsKeyParts der (Some parts)) c.as_bytes.ensures.bytes
    (texts_read found.0 c.as_bytes.result.now (lent_parts c.in-Some.parts) parts found.1 found.2 c.in_ok-texts_of-in-Some.ensures)
