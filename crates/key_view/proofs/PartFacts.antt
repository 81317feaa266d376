-- What a certificate says, and the texts of it.
use Rattle.std.proofs.Common.{◌≡◌, List, ℕ, Some, subst}
use Rattle.std.specs.Prelude.{string_bytes}
use Rattle.cert_key.specs.Certificate.{Certificate, IsSpelled, Parts, parts_of}
use Rattle.cert_key.specs.Moment.{Time, IsTime, moment_of, moment_text, unix_seconds}
use Rattle.cert_key.proofs.MomentFacts.{time_moment}
use Rattle.key_view.specs.declared.known_entry.KeyParts.{KeyParts}
use Rattle.key_view.specs.KeyEntries.{IsKeyParts}
use Rattle.key_view.specs.Inside.PartTexts.{IsTextAt, IsTextsOf}

text_of : (t : Time) (text : List ℕ) → IsTime t → IsTextAt (unix_seconds (moment_of t)) text → text ≡ moment_text (moment_of t)
text_of t text is at = at (moment_of t) (time_moment t is)

-- the texts of the parts of a certificate
pub texts_read : (c : Certificate) (der : List ℕ) (parts : Parts) (p : KeyParts) → IsSpelled c der → parts ≡ parts_of c → IsTextsOf parts p
    → IsKeyParts der (Some p)
texts_read c der parts p spelled same texts =
    let own : IsTextsOf (parts_of c) p = subst (λ (q : Parts). IsTextsOf q p) same texts in (
      c,
      spelled,
      record {
        public_key = own.public_key;
        not_before = own.not_before;
        not_after = own.not_after;
        valid_from = text_of c.not_before (string_bytes p.valid_from) spelled.not_before own.valid_from;
        valid_until = text_of c.not_after (string_bytes p.valid_until) spelled.not_after own.valid_until;
        subject = own.subject;
      },
    )
