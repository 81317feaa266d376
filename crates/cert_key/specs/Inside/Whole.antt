-- Reading a certificate, from left to right
use Rattle.std.specs.Prelude.{ℕ, List, length, Option, Some, None, nat_eq, if◌then◌else◌}
use Rattle.cert_key.specs.Certificate.{Parts}
use Rattle.cert_key.specs.Inside.Reading.{◌>>=◌, Found, field_at}
use Rattle.cert_key.specs.Inside.Times.{times_at}

abbrev pub rest_after : List ℕ → Option Found → List ℕ
rest_after bytes None = bytes
rest_after bytes (Some e) = e.after

unfoldable pub after_version : List ℕ → List ℕ
after_version bytes = rest_after bytes (field_at 160 bytes)

-- the fields of tbsCertificate
unfoldable pub fields_at : List ℕ → Option Parts
fields_at bytes = do
  serial_number ← field_at 2 (after_version bytes)
  signature ← field_at 48 serial_number.after
  issuer ← field_at 48 signature.after
  validity ← field_at 48 issuer.after
  times ← times_at validity.content
  subject ← field_at 48 validity.after
  public_key ← field_at 48 subject.after
  Some (record {
    public_key = public_key.whole;
    subject = subject.whole;
    not_before = times.0;
    not_after = times.1;
  })

unfoldable pub certificate_at : List ℕ → Option Parts
certificate_at bytes = do
  certificate ← field_at 48 bytes
  signed ← field_at 48 certificate.content
  if nat_eq (length certificate.after) 0 then fields_at signed.content else None
