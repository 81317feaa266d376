-- What the crate's records of the lines of haves say, and how the next have of a stream is
-- read.
use Rattle.std.specs.Prelude.{◌≡◌, ◌≢◌, ◌≤◌, ◌⊎◌, ℕ, List, length, Option, None, Some, codes}
use Rattle.std.specs.List.{join_by}
use Rattle.std.specs.Io.KnownBytes.{IsAtEnd}
use Rattle.fed_config.specs.Configuration.{Configuration, config_id_of}
use Rattle.byte_lines.specs.Lines.{HasLine, HasNoLine, HasMore}
use Rattle.replica_core.specs.Session.{HaveMessage}
use Rattle.replica_core.specs.declared.error.SyncError.{SyncError}
use Rattle.replica_core.specs.declared.error.SyncError.TheVariants.{BadHeader, ConfigDiffers}
use Rattle.replica_core.specs.declared.error.SyncError.TheVariants.{VersionDiffers}
use Rattle.replica_core.specs.declared.error.SyncError.TheVariants.{Truncated}
use Rattle.replica_core.specs.declared.error.SyncError.TheVariants.{Io, NoMemory}
use Rattle.replica_texts.specs.Messages.{AnyHave, quoted}
use Rattle.replica_texts.specs.FirstLines.{HasBadFirstLine, IsAnyHaveLine, IsSupportedVersion}
use Rattle.replica_texts.specs.FirstLines.{RefusesHaveLine}
use Rattle.replica_texts.specs.declared.have_fields.VersionedHave.{VersionedHave}
use Rattle.replica_texts.specs.declared.have_fields.HaveFields.{HaveFields}
use Rattle.byte_lines.specs.Limits.{line_limit}

abbrev pub versioned_have_says : VersionedHave → AnyHave
versioned_have_says a = record {
  have =
      record { bucket = a.bucket; config = a.have.config; ids = a.have.ids };
  format = a.format;
  buckets = a.buckets;
}

-- The parts are those of what is asked.
pub record ArePartsOf (p : HaveFields) (a : AnyHave) : Type 0 where
  pub bucket : p.bucket ≡ a.have.bucket
  pub config : p.config.0 ≡ a.have.config
  pub format : p.format ≡ a.format
  pub ids : p.ids.now ≡ join_by quoted (codes ",") a.have.ids
  pub buckets : p.buckets ≡ a.buckets

-- What is asked is of the parts, and has these ids.
pub record IsOfParts (p : HaveFields) (listed : List (List ℕ)) (a : VersionedHave) : Type 0 where
  pub bucket : a.bucket ≡ p.bucket
  pub config : a.have.config ≡ p.config.0
  pub format : a.format ≡ p.format
  pub ids : a.have.ids ≡ listed
  pub buckets : a.buckets ≡ p.buckets

-- the text is not a have's line; or else memory ran out
abbrev pub RefusesAnyHave : List ℕ → SyncError → Type 0
RefusesAnyHave text e = ((e ≡ BadHeader) × ((asked : AnyHave) → IsAnyHaveLine text asked → ⊥))
    ⊎ (e ≡ NoMemory)

-- ---- in a stream

-- The stream's first line is a have's. It is used up.
pub record HasHaveLine (old new : Option (List ℕ)) (a : VersionedHave) : Type 0 where
  pub text : List ℕ
  pub is : HasLine old new text
  pub line : IsAnyHaveLine text (versioned_have_says a)
  pub short : length text ≤ line_limit

-- there is one, or the stream is at its end
abbrev pub FindsHaveLine : Option (List ℕ) → Option (List ℕ) → Option VersionedHave → Type 0
FindsHaveLine old new None = IsAtEnd old × IsAtEnd new
FindsHaveLine old new (Some a) = HasHaveLine old new a

-- why no line of a have is read, of whatever configuration, format and number of buckets
abbrev pub RefusesNextHave : Option (List ℕ) → Option (List ℕ) → SyncError → Type 0
RefusesNextHave old new BadHeader = HasBadFirstLine (RefusesHaveLine None) old new BadHeader
RefusesNextHave old new Truncated = HasNoLine old × HasMore old
RefusesNextHave old new Io = Unit {0}
RefusesNextHave old new NoMemory = Unit {0}
RefusesNextHave old new _ = ⊥

-- It is of the one format and number of buckets that are supported.
pub record IsSupportedHave (a : VersionedHave) (q : HaveMessage) : Type 0 where
  pub supported : IsSupportedVersion a.format a.buckets
  pub same : (versioned_have_says a).have ≡ q

-- It is of another format or number of buckets.
pub record IsUnsupportedHave (a : VersionedHave) (e : SyncError) : Type 0 where
  pub cause : e ≡ VersionDiffers
  pub unsupported : IsSupportedVersion a.format a.buckets → ⊥

-- It is of another configuration, or of this one and of another format or number of buckets.
abbrev pub RefusesVersionedHave : Configuration → VersionedHave → SyncError → Type 0
RefusesVersionedHave config a ConfigDiffers = a.have.config ≢ config_id_of config
RefusesVersionedHave config a VersionDiffers = (a.have.config ≡ config_id_of config)
    × (IsSupportedVersion a.format a.buckets → ⊥)
RefusesVersionedHave config a _ = ⊥
