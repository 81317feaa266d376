-- What the crate's records of first lines say.
use Rattle.std.specs.Prelude.{◌≡◌, ◌<◌, ◌^◌, ℕ, List, map, Option, Some, None, IfSome}
use Rattle.byte_lines.specs.Lines.{HasLine}
use Rattle.receipt_core.specs.Receipt.{IsDigest}
use Rattle.replica_core.specs.declared.error.SyncError.{SyncError}
use Rattle.replica_core.specs.declared.error.SyncError.TheVariants.{BadHeader, ConfigDiffers}
use Rattle.replica_core.specs.declared.error.SyncError.TheVariants.{VersionDiffers}
use Rattle.replica_texts.specs.Messages.{AnyHave, GiveHeader}
use Rattle.replica_texts.specs.FirstLines.{Expected, IsAbout, HasDigestOf, HasOtherDigest}
use Rattle.replica_texts.specs.FirstLines.{IsSupportedVersion, IsWantedHeader, config_of}
use Rattle.replica_texts.specs.declared.spelling.HaveLine.{HaveLine}
use Rattle.replica_texts.specs.declared.spelling.GiveHeaderLine.{GiveHeaderLine}
use Rattle.replica_texts.specs.declared.give_header_reader.Expected.{Expected as Wish}
use Rattle.replica_texts.specs.declared.give_header_reader.Head.{Head}

abbrev pub have_line_says : HaveLine → AnyHave
have_line_says a = record {
  have =
      record { bucket = a.bucket; config = a.config.0; ids = map (λ id. id.0) a.ids.now };
  format = a.format;
  buckets = a.buckets;
}

abbrev pub header_by : GiveHeaderLine → GiveHeader
header_by t = record {
  bucket = t.bucket;
  config = t.config.0;
  count = t.count;
  distrusts = t.distrusts;
  format = t.format;
  buckets = t.buckets;
}

-- Its numbers have 64 bits, and its digest 32 bytes.
pub record HasWords (t : GiveHeader) : Type 0 where
  pub count : t.count < 2 ^ 64
  pub distrusts : IfSome t.distrusts (λ n. n < 2 ^ 64)
  pub format : t.format < 2 ^ 64
  pub buckets : t.buckets < 2 ^ 64
  pub config : IsDigest t.config

abbrev pub expected_by : Option Wish → Option Expected
expected_by None = None
expected_by (Some wish) = Some (record { config = wish.config.now; bucket = wish.bucket })

-- ---- the one format and number of buckets that are supported

abbrev pub header_by_head : Head → GiveHeader
header_by_head h = record {
  bucket = h.bucket;
  config = h.config.0;
  count = h.count;
  distrusts = Some h.distrusts;
  format = 2;
  buckets = 256;
}

-- It is a first line that is read, and says this.
pub record IsHeadLine (expected : Option Expected) (text : List ℕ) (h : Head) : Type 0 where
  pub wanted : IsWantedHeader expected text (header_by_head h)
  pub own : HasDigestOf (config_of expected) h.config.0

-- The stream's first line is such a one. It is used up.
pub record HasHead (expected : Option Expected) (old new : Option (List ℕ))
    (h : Head) : Type 0 where
  pub text : List ℕ
  pub is : HasLine old new text
  pub head : IsHeadLine expected text h

-- What the first line says is wanted, and is this.
pub record IsHeadOf (expected : Option Expected) (t : GiveHeader) (h : Head) : Type 0 where
  pub about : IsAbout expected t.bucket
  pub own : HasDigestOf (config_of expected) t.config
  pub same : t ≡ header_by_head h

-- what is wrong with what the first line says
abbrev pub RefusesGiveHeader : Option Expected → GiveHeader → SyncError → Type 0
RefusesGiveHeader expected t BadHeader = IsAbout expected t.bucket → ⊥
RefusesGiveHeader expected t ConfigDiffers = IsAbout expected t.bucket
    × HasOtherDigest (config_of expected) t.config
RefusesGiveHeader expected t VersionDiffers = IsAbout expected t.bucket
    × HasDigestOf (config_of expected) t.config × (IsSupportedVersion t.format t.buckets → ⊥)
RefusesGiveHeader expected t _ = ⊥
