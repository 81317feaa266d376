-- What the URL of a bundle endpoint is, and the text that is kept of it.
use Rattle.std.specs.Prelude.{◌≡◌, ℕ, ◌≤◌, List, [], length, codes, None, Ok}
use Rattle.url.specs.Parts.{Parts, IsValid, serialize}
use Rattle.url.specs.Parser.{parse_url}
use Rattle.fed_config.specs.Limits.{url_limit}

-- The text has at most 2,048 bytes. The URL Standard parses it to these parts: the scheme `https`,
-- and neither a user name nor a password.
pub record IsParsed (text : List ℕ) (parts : Parts) : Type 0 where
  pub limit : length text ≤ url_limit
  pub parses : parse_url None text ≡ Ok parts
  pub scheme : parts.scheme ≡ codes "https"
  pub username : parts.username ≡ []
  pub password : parts.password ≡ []

-- the text is kept as it is serialized (URL Standard, section 4.5); the parts are those that a URL
-- can have
pub record KeepsUrl (text url : List ℕ) : Type 0 where
  pub parts : Parts
  pub parsed : IsParsed text parts
  pub valid : IsValid parts
  pub serialized : url ≡ serialize parts

-- the kept text of some URL
abbrev pub IsEndpointUrl : List ℕ → Type 0
IsEndpointUrl url = (text : List ℕ) × KeepsUrl text url
