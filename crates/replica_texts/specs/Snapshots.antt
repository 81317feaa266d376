-- Snapshots: the text of what a replica holds, and why a stream is not a snapshot.
use Rattle.std.specs.Prelude.{◌≡◌, ℕ, ◌+◌, ◌^◌, ◌<◌, ◌≤◌, ◌⊎◌, ◌++◌, ◌||◌, Bool, true, false, List}
use Rattle.std.specs.Prelude.{[], ◌∷◌, length, map, flat_map, fold, codes, decimal, Option, IfSome}
use Rattle.std.specs.Prelude.{Result, Err, nat_le, ◌&&◌}
use Rattle.std.specs.List.{AllPass}
use Rattle.std.specs.Io.KnownBytes.{Consumes}
use Rattle.hex.specs.Hex.{encode_lower}
use Rattle.fed_config.specs.Configuration.{Configuration, config_id_of}
use Rattle.receipt_core.specs.Receipt.{line, distrust_line}
use Rattle.receipt_core.specs.Acceptance.{Meaning, IsMeaning}
use Rattle.byte_lines.specs.Lines.{HasLine, HasNoLine, HasMore}
use Rattle.replica_texts.specs.Entries.{RefusesEntryLine, placed_line}
use Rattle.replica_texts.specs.declared.entry_line.Wanted.{Wanted}
use Rattle.replica_texts.specs.declared.entry_line.Wanted.TheVariants.{Receipts, Either}
use Rattle.replica_texts.specs.declared.format.Format.{Format}
use Rattle.replica_texts.specs.declared.format.Format.TheVariants.{First, Second}
use Rattle.replica_core.specs.declared.error.SyncError.{SyncError}
use Rattle.replica_core.specs.declared.error.SyncError.TheVariants.{BadHeader, ConfigDiffers}
use Rattle.replica_core.specs.declared.error.SyncError.TheVariants.{VersionDiffers, NotCanonical}
use Rattle.replica_core.specs.declared.error.SyncError.TheVariants.{NotRising, BadCount, Truncated}
use Rattle.replica_core.specs.declared.error.SyncError.TheVariants.{Refused, Io, NoMemory}
use Rattle.byte_lines.specs.Limits.{line_limit}

-- ---- the text

abbrev pub version_of : Format → ℕ
version_of First = 1
version_of Second = 2

-- the first line, of the digits of a digest and those of a number
unfoldable pub header_of : List ℕ → List ℕ → List ℕ
header_of digits number = codes "{\"config\":\""
    ++ (digits ++ (codes "\",\"format\":" ++ (number ++ codes "}")))

-- the digest of the configuration in hexadecimal
abbrev pub digits_of : Configuration → List ℕ
digits_of c = encode_lower (config_id_of c)

abbrev pub header_line : Format → Configuration → List ℕ
header_line format c = header_of (digits_of c) (decimal (version_of format))

abbrev pub count_beginning : List ℕ
count_beginning = codes "{\"count\":"

-- the first format has no records
abbrev pub records_part : Format → ℕ → List ℕ
records_part First records = []
records_part Second records = codes ",\"distrusts\":" ++ decimal records

-- the last line, of the numbers of receipts and of records
unfoldable pub count_of : Format → ℕ → ℕ → List ℕ
count_of format receipts records = count_beginning
    ++ (decimal receipts ++ (records_part format records ++ codes "}"))

abbrev pub count_line : Format → Meaning → List ℕ
count_line format m = count_of format (length m.held) (length m.records)

-- a line with its line feed
abbrev pub ended : List ℕ → List ℕ
ended text = text ++ (10 ∷ [])

abbrev pub text_of_lines : List (List ℕ) → List ℕ
text_of_lines = flat_map ended

-- the lines of records, and then those of receipts
abbrev pub held_lines : Meaning → List (List ℕ)
held_lines m = map distrust_line m.records ++ map line m.held

-- the first line and those of what is held
abbrev pub begun_text : Format → Meaning → List ℕ
begun_text format m = ended (header_line format m.config) ++ text_of_lines (held_lines m)

abbrev pub snapshot_text : Format → Meaning → List ℕ
snapshot_text format m = begun_text format m ++ ended (count_line format m)

-- ---- what is read

-- the first format has no records, and the second any
abbrev pub FitsFormat : Format → Meaning → Type 0
FitsFormat First m = m.records ≡ []
FitsFormat Second m = Unit {0}

-- The stream begins with the first line and the lines of what a replica of the configuration may
-- hold, and `left` is what follows them.
pub record Begins (config : Configuration) (stream : Option (List ℕ)) (format : Format)
    (m : Meaning) (left : Option (List ℕ)) : Type 0 where
  pub of_config : m.config ≡ config
  pub valid : IsMeaning m
  pub fits : FitsFormat format m
  pub text : Consumes stream left (begun_text format m)

-- The stream is the text of what a replica of the configuration may hold.
pub record IsSnapshot (config : Configuration) (stream : Option (List ℕ))
    (m : Meaning) : Type 0 where
  pub of_config : m.config ≡ config
  pub valid : IsMeaning m
  pub format : Format
  pub fits : FitsFormat format m
  pub text : IfSome stream (λ bytes. bytes ≡ snapshot_text format m)

-- ---- what is refused: the first line

abbrev pub is_lower_hex_digit : ℕ → Bool
is_lower_hex_digit b = (nat_le 48 b && nat_le b 57) || (nat_le 97 b && nat_le b 102)

-- 64 lower-case hexadecimal digits
pub record AreDigits (digits : List ℕ) : Type 0 where
  pub size : length digits ≡ 64
  pub each : AllPass is_lower_hex_digit digits

-- It is spelt as a first line is, with these digits and this number.
pub record IsHeader (text digits : List ℕ) (version : ℕ) : Type 0 where
  pub form : AreDigits digits
  pub few : version < 2 ^ 64
  pub spelt : text ≡ header_of digits (decimal version)

abbrev pub IsNoHeader : List ℕ → Type 0
IsNoHeader text = (digits : List ℕ) (version : ℕ) → IsHeader text digits version → ⊥

-- It is one of another configuration.
pub record IsOfOther (config : Configuration) (text : List ℕ) : Type 0 where
  pub digits : List ℕ
  pub version : ℕ
  pub is : IsHeader text digits version
  pub other : digits ≡ digits_of config → ⊥

-- It is one of this configuration, with the number of no supported format.
pub record IsOfOtherFormat (config : Configuration) (text : List ℕ) : Type 0 where
  pub version : ℕ
  pub is : IsHeader text (digits_of config) version
  pub other : (format : Format) → version ≡ version_of format → ⊥

abbrev pub RefusesHeader : Configuration → List ℕ → SyncError → Type 0
RefusesHeader config text BadHeader = IsNoHeader text
RefusesHeader config text ConfigDiffers = IsOfOther config text
RefusesHeader config text VersionDiffers = IsOfOtherFormat config text
RefusesHeader config text _ = ⊥

-- The first line is there, and has this error. A line that is too long is not a first line.
pub record HasBadFirst (config : Configuration) (stream : Option (List ℕ))
    (e : SyncError) : Type 0 where
  pub text : List ℕ
  pub after : Option (List ℕ)
  pub is : HasLine stream after text
  pub cause : ((e ≡ BadHeader) × (line_limit < length text)) ⊎ RefusesHeader config text e

abbrev pub RefusesFirst : Configuration → Option (List ℕ) → SyncError → Type 0
RefusesFirst config stream BadHeader = HasBadFirst config stream BadHeader
RefusesFirst config stream ConfigDiffers = HasBadFirst config stream ConfigDiffers
RefusesFirst config stream VersionDiffers = HasBadFirst config stream VersionDiffers
RefusesFirst config stream Truncated = HasNoLine stream
RefusesFirst config stream Io = Unit {0}
RefusesFirst config stream NoMemory = Unit {0}
RefusesFirst config stream _ = ⊥

-- ---- what is refused: a line after a good beginning

-- the first format has no records
abbrev pub wanted_of : Format → Wanted
wanted_of First = Receipts
wanted_of Second = Either

-- the last one, or the empty text if there is no line
abbrev pub last_of : List (List ℕ) → List ℕ
last_of lines = fold (λ before text. text) [] lines

abbrev pub last_line : Meaning → List ℕ
last_line m = last_of (held_lines m)

abbrev pub next_number : Meaning → ℕ
next_number m = length m.records + length m.held + 2

-- It begins as the last line does, and is not too long.
pub record IsCountLine (text : List ℕ) : Type 0 where
  pub rest : List ℕ
  pub begins : text ≡ count_beginning ++ rest
  pub few : length text ≤ line_limit

-- It has other numbers than the last line, or spells them otherwise.
pub record IsBadCount (format : Format) (m : Meaning) (text : List ℕ) : Type 0 where
  pub count : IsCountLine text
  pub other : text ≡ count_line format m → ⊥

-- It does not begin as the last line does, and has an error of one line.
pub record IsBadLine (format : Format) (m : Meaning) (text : List ℕ) (e : SyncError) : Type 0 where
  pub further : IsCountLine text → ⊥
  pub cause : RefusesEntryLine m
      (placed_line (wanted_of format) (last_line m) (next_number m) text) e

-- what is wrong with the line that follows the good beginning
abbrev pub RefusesPlace : Format → Meaning → List ℕ → SyncError → Type 0
RefusesPlace format m text (NotCanonical n) = IsBadLine format m text (NotCanonical n)
RefusesPlace format m text (NotRising n) = IsBadLine format m text (NotRising n)
RefusesPlace format m text BadCount = IsBadCount format m text
RefusesPlace format m text (Refused n why) = IsBadLine format m text (Refused n why)
RefusesPlace format m text NoMemory = Unit {0}
RefusesPlace format m text _ = ⊥

-- There is such a line, and it has this error.
pub record HasBadLine (format : Format) (m : Meaning) (left : Option (List ℕ))
    (e : SyncError) : Type 0 where
  pub text : List ℕ
  pub after : Option (List ℕ)
  pub is : HasLine left after text
  pub cause : RefusesPlace format m text e

-- The last line is right, and more follows it.
pub record HasMoreAfter (format : Format) (m : Meaning) (left : Option (List ℕ)) : Type 0 where
  pub after : Option (List ℕ)
  pub is : Consumes left after (ended (count_line format m))
  pub more : HasMore after

-- Nothing of the stream is known if the source fails; and memory is wanted before its first byte is
-- read.
abbrev pub RefusesNext : Format → Meaning → Option (List ℕ) → SyncError → Type 0
RefusesNext format m left (NotCanonical n) = HasBadLine format m left (NotCanonical n)
    ⊎ ((n ≡ next_number m + 1) × HasMoreAfter format m left)
RefusesNext format m left (NotRising n) = HasBadLine format m left (NotRising n)
RefusesNext format m left BadCount = HasBadLine format m left BadCount
RefusesNext format m left Truncated = HasNoLine left
RefusesNext format m left (Refused n why) = HasBadLine format m left (Refused n why)
RefusesNext format m left Io = Unit {0}
RefusesNext format m left NoMemory = Unit {0}
RefusesNext format m left _ = ⊥

-- ---- the first error

-- A good beginning, and after it this error.
pub record HasFaultAfter (config : Configuration) (stream : Option (List ℕ))
    (e : SyncError) : Type 0 where
  pub format : Format
  pub m : Meaning
  pub left : Option (List ℕ)
  pub begins : Begins config stream format m left
  pub cause : RefusesNext format m left e

abbrev pub RefusesSnapshot : Configuration → Option (List ℕ) → SyncError → Type 0
RefusesSnapshot config stream e = RefusesFirst config stream e ⊎ HasFaultAfter config stream e

-- the device failed
abbrev pub is_io : {T : Type 0} → Result T SyncError → Bool
is_io (Err Io) = true
is_io _ = false
