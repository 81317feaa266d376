use Rattle.std.proofs.Common.{◌≡◌, ◌∙◌, ap, sym, Some, None, true, false}
use Rattle.hex.specs.Hex.{encode_lower}
use Rattle.receipt_core.proofs.members.digest_of.Goals as goal

pub returns-in_err-digest : goal.returns-in_err-digest
returns-in_err-digest c =
    rw c.from_residual.ensures (λ d h.
    let found : c.decoded.result ≡ Some d = c.decoded.ensures d (h.0 ∙ sym c.as_bytes.ensures.value) h.1 in
    let none : c.decoded.result ≡ None = c.in_err-digest.was in
    cc)

pub returns-else-is_digits : goal.returns-else-is_digits
returns-else-is_digits c = λ x h.
    let found : c.decoded.result ≡ Some x = c.decoded.ensures x (h.0 ∙ sym c.as_bytes.ensures.value) h.1 in
    let some : c.decoded.result ≡ Some c.in_ok-digest.digest = c.in_ok-digest.was in
    let same : c.in_ok-digest.digest ≡ x = cc in
    let yes : c.is_digits.result ≡ true = c.is_digits.ensures.same.1 (ap encode_lower same ∙ h.0 ∙ sym c.as_bytes-2.ensures.value) in
    let not_so : c.is_digits.result ≡ false = c.if-is_digits.false in
    cc
