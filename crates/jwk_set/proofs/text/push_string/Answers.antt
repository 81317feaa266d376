use Rattle.std.proofs.Common.{append_assoc, refl}
use Rattle.jwk_set.proofs.EscapeFacts.{escape_itself}
use Rattle.jwk_set.proofs.text.push_string.Goals as goal

pub returns : goal.returns
returns c =
    rw (
      escape_itself c.args.text.now (rw c.as_bytes.ensures.value at (c.if-not-is_plain.ensures.0 refl)),
      c.in_ok-push_str-4.ensures.bytes,
      c.in_ok-push_str-3.ensures.bytes,
      c.in_ok-push_str-2.ensures.bytes,
      c.in_ok-push_str.ensures.bytes,
    ) (simp (append_assoc))
