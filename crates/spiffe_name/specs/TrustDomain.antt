-- Trust domain names: SPIFFE-ID, sections 2.1 and 2.3.
use Rattle.std.specs.Prelude.{◌≡◌, ℕ, ◌<◌, ◌≤◌, List, [], length}
use Rattle.std.specs.List.{AllPass}
use Rattle.spiffe_name.specs.Bytes.{is_domain_byte, FirstFails}
use Rattle.spiffe_name.specs.declared.error.NameError.{NameError}
use Rattle.spiffe_name.specs.declared.error.NameError.TheVariants.{Empty, TooLong, BadScheme}
use Rattle.spiffe_name.specs.declared.error.NameError.TheVariants.{BadDomainByte, BadPath, NoMemory}
use Rattle.spiffe_name.specs.Limits.{name_limit}

-- 1 to 255 bytes, each a to z, 0 to 9, full stop, hyphen or low line
pub record IsDomainText (text : List ℕ) : Type 0 where
  pub some : 0 < length text
  pub limit : length text ≤ name_limit
  pub bytes : AllPass is_domain_byte text

-- The first cause for which the text is not a name, or that there was no memory for one.
abbrev pub RefusesDomain : List ℕ → NameError → Type 0
RefusesDomain text Empty = text ≡ []
RefusesDomain text TooLong = name_limit < length text
RefusesDomain text (BadDomainByte place) = (length text ≤ name_limit)
    × FirstFails is_domain_byte text place
RefusesDomain text NoMemory = IsDomainText text
-- these are of IDs
RefusesDomain text BadScheme = ⊥
RefusesDomain text (BadPath place) = ⊥
