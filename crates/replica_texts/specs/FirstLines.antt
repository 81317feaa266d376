-- The first lines of messages, and why a line is not one.
use Rattle.std.specs.Prelude.{◌≡◌, ◌≢◌, ℕ, ◌<◌, ◌≤◌, ◌^◌, ◌⊎◌, List, length, ⊤, Option, Some, None}
use Rattle.std.specs.List.{AllByRecursion}
use Rattle.fed_config.specs.Configuration.{Configuration, config_id_of}
use Rattle.byte_lines.specs.Lines.{HasLine}
use Rattle.receipt_core.specs.Receipt.{IsDigest}
use Rattle.replica_core.specs.Session.{IsHave}
use Rattle.replica_texts.specs.Messages.{AnyHave, any_have_text, GiveHeader, give_header_text}
use Rattle.replica_core.specs.declared.error.SyncError.{SyncError}
use Rattle.replica_core.specs.declared.error.SyncError.TheVariants.{BadHeader, ConfigDiffers}
use Rattle.replica_core.specs.declared.error.SyncError.TheVariants.{VersionDiffers}
use Rattle.replica_core.specs.declared.error.SyncError.TheVariants.{NoMemory}
use Rattle.byte_lines.specs.Limits.{line_limit}

-- the one format and the one number of buckets that are supported
abbrev pub IsSupportedVersion : ℕ → ℕ → Type 0
IsSupportedVersion format buckets = (format ≡ 2) × (buckets ≡ 256)

-- if a configuration is known, the digest is its
abbrev pub HasDigestOf : Option Configuration → List ℕ → Type 0
HasDigestOf None digest = ⊤
HasDigestOf (Some config) digest = digest ≡ config_id_of config

-- if a configuration is known, the digest is another one's
abbrev pub HasOtherDigest : Option Configuration → List ℕ → Type 0
HasOtherDigest None digest = ⊥
HasOtherDigest (Some config) digest = digest ≢ config_id_of config

-- ---- haves

-- The bucket is one of this many, the numbers have 64 bits, digests 32 bytes, and the ids rise.
pub record IsAnyHave (a : AnyHave) : Type 0 where
  pub bucket : a.have.bucket < a.buckets
  pub format : a.format < 2 ^ 64
  pub buckets : a.buckets < 2 ^ 64
  pub config : IsDigest a.have.config
  pub ids : AllByRecursion IsDigest a.have.ids
  pub rising : IsHave a.have

-- It is spelt as a have's line, and says this.
pub record IsAnyHaveLine (text : List ℕ) (a : AnyHave) : Type 0 where
  pub is : IsAnyHave a
  pub spelt : text ≡ any_have_text a

-- It is a have's line of another configuration.
pub record IsHaveOfOther (config : Option Configuration) (text : List ℕ) : Type 0 where
  pub asked : AnyHave
  pub line : IsAnyHaveLine text asked
  pub other : HasOtherDigest config asked.have.config

-- It is one of this configuration, of another format or number of buckets.
pub record IsHaveOfOtherVersion (config : Option Configuration) (text : List ℕ) : Type 0 where
  pub asked : AnyHave
  pub line : IsAnyHaveLine text asked
  pub own : HasDigestOf config asked.have.config
  pub unsupported : IsSupportedVersion asked.format asked.buckets → ⊥

-- what is wrong with the line if a have's is wanted
abbrev pub RefusesHaveLine : Option Configuration → List ℕ → SyncError → Type 0
RefusesHaveLine config text BadHeader = (asked : AnyHave) → IsAnyHaveLine text asked → ⊥
RefusesHaveLine config text ConfigDiffers = IsHaveOfOther config text
RefusesHaveLine config text VersionDiffers = IsHaveOfOtherVersion config text
RefusesHaveLine config text NoMemory = Unit {0}
RefusesHaveLine config text _ = ⊥

-- ---- answers

-- what a session wants of an answer: this configuration's digest, and this bucket
pub record Expected : Type 0 where
  pub config : Configuration
  pub bucket : ℕ

abbrev pub config_of : Option Expected → Option Configuration
config_of None = None
config_of (Some expected) = Some expected.config

abbrev pub IsAbout : Option Expected → ℕ → Type 0
IsAbout None bucket = ⊤
IsAbout (Some expected) bucket = bucket ≡ expected.bucket

-- the number of records; the first format, and no other, has none
abbrev pub IsRecordCount : ℕ → Option ℕ → Type 0
IsRecordCount format None = format ≡ 1
IsRecordCount format (Some number) = number < 2 ^ 64

-- The bucket is one of this many, the numbers have 64 bits, and the digest 32 bytes.
pub record IsGiveHeader (t : GiveHeader) : Type 0 where
  pub bucket : t.bucket < t.buckets
  pub count : t.count < 2 ^ 64
  pub records : IsRecordCount t.format t.distrusts
  pub format : t.format < 2 ^ 64
  pub buckets : t.buckets < 2 ^ 64
  pub config : IsDigest t.config

-- It is spelt as an answer's first line, and says this.
pub record IsGiveHeaderLine (text : List ℕ) (t : GiveHeader) : Type 0 where
  pub is : IsGiveHeader t
  pub spelt : text ≡ give_header_text t

-- It is such a line about the bucket that is wanted.
pub record IsWantedHeader (expected : Option Expected) (text : List ℕ)
    (t : GiveHeader) : Type 0 where
  pub line : IsGiveHeaderLine text t
  pub about : IsAbout expected t.bucket

-- It is one of another configuration.
pub record IsOtherHeader (expected : Option Expected) (text : List ℕ) : Type 0 where
  pub header : GiveHeader
  pub wanted : IsWantedHeader expected text header
  pub other : HasOtherDigest (config_of expected) header.config

-- It is one of this configuration, of another format or number of buckets.
pub record IsUnsupportedHeader (expected : Option Expected) (text : List ℕ) : Type 0 where
  pub header : GiveHeader
  pub wanted : IsWantedHeader expected text header
  pub own : HasDigestOf (config_of expected) header.config
  pub unsupported : IsSupportedVersion header.format header.buckets → ⊥

-- what is wrong with the line if an answer's first line is wanted
abbrev pub RefusesGiveLine : Option Expected → List ℕ → SyncError → Type 0
RefusesGiveLine expected text BadHeader = (header : GiveHeader)
    → IsWantedHeader expected text header → ⊥
RefusesGiveLine expected text ConfigDiffers = IsOtherHeader expected text
RefusesGiveLine expected text VersionDiffers = IsUnsupportedHeader expected text
RefusesGiveLine expected text NoMemory = Unit {0}
RefusesGiveLine expected text _ = ⊥

-- ---- in a stream

-- The line is too long, so it is not a line of a message, or else it has this error.
abbrev pub RefusesFirstLine : (List ℕ → SyncError → Type 0) → List ℕ → SyncError → Type 0
RefusesFirstLine refuses text e = ((e ≡ BadHeader) × (line_limit < length text))
    ⊎ ((length text ≤ line_limit) × refuses text e)

-- The stream's first line has this error. It is used up.
pub record HasBadFirstLine (refuses : List ℕ → SyncError → Type 0) (old new : Option (List ℕ))
    (e : SyncError) : Type 0 where
  pub text : List ℕ
  pub is : HasLine old new text
  pub cause : RefusesFirstLine refuses text e
