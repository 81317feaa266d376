-- The place of a name's bytes.
use Rattle.std.specs.Prelude.{ℕ, List, string_bytes}
use Rattle.spiffe_name.specs.declared.domain.NameText.{NameText}
use Rattle.spiffe_name.specs.declared.domain.NameText.TheVariants.{Short, Long}

abbrev pub text_of : NameText → List ℕ
text_of (Short text) = text.bytes
text_of (Long text) = string_bytes text
