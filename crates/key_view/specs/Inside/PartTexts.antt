-- The texts of what a certificate says
use Rattle.std.specs.Prelude.{◌≡◌, ℕ, List, ℤ, option_map, string_bytes}
use Rattle.sha2.specs.Sha256.{sha256}
use Rattle.cert_key.specs.Certificate.{Parts}
use Rattle.cert_key.specs.Moment.{IsMomentOf, Moment, moment_text}
use Rattle.cert_key.specs.Name.{IsNameText}
use Rattle.key_view.specs.declared.known_entry.KeyParts.{KeyParts}

-- the text of the date and time of these seconds
abbrev pub IsTextAt : ℤ → List ℕ → Type 0
IsTextAt seconds text = (m : Moment) → IsMomentOf seconds m → text ≡ moment_text m

pub record IsTextsOf (parts : Parts) (p : KeyParts) : Type 0 where
  pub public_key : p.public_key ≡ sha256 parts.public_key
  pub not_before : p.not_before ≡ parts.not_before
  pub not_after : p.not_after ≡ parts.not_after
  pub valid_from : IsTextAt parts.not_before (string_bytes p.valid_from)
  pub valid_until : IsTextAt parts.not_after (string_bytes p.valid_until)
  pub subject : IsNameText parts.subject (option_map string_bytes p.subject)
