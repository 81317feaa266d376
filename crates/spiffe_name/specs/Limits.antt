-- How long names may be, in bytes: SPIFFE-ID, section 2.3.
use Rattle.std.specs.Prelude.{ℕ}

-- of a trust domain name
abbrev pub name_limit : ℕ
name_limit = 255

-- of a SPIFFE ID
abbrev pub id_limit : ℕ
id_limit = 2048
