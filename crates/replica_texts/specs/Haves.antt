-- How haves are read from a stream.
use Rattle.std.specs.Prelude.{◌≡◌, ℕ, ◌≤◌, List, length, Option, Some}
use Rattle.fed_config.specs.Configuration.{Configuration, config_id_of}
use Rattle.byte_lines.specs.Lines.{HasNoLine, HasMore}
use Rattle.replica_core.specs.Session.{HaveMessage}
use Rattle.replica_texts.specs.Messages.{as_any_have, any_have_text}
use Rattle.replica_texts.specs.FirstLines.{HasBadFirstLine, IsAnyHave, RefusesHaveLine}
use Rattle.replica_core.specs.declared.error.SyncError.{SyncError}
use Rattle.replica_core.specs.declared.error.SyncError.TheVariants.{BadHeader, ConfigDiffers}
use Rattle.replica_core.specs.declared.error.SyncError.TheVariants.{VersionDiffers}
use Rattle.replica_core.specs.declared.error.SyncError.TheVariants.{Truncated}
use Rattle.replica_core.specs.declared.error.SyncError.TheVariants.{Io, NoMemory}
use Rattle.byte_lines.specs.Limits.{line_limit}

-- Why the have that should begin here is not read. Nothing is known of the stream if the source
-- fails.
abbrev pub RefusesHave : Option Configuration → Option (List ℕ) → Option (List ℕ) → SyncError
    → Type 0
RefusesHave config old new BadHeader = HasBadFirstLine (RefusesHaveLine config) old new BadHeader
RefusesHave config old new ConfigDiffers = HasBadFirstLine (RefusesHaveLine config) old new
    ConfigDiffers
RefusesHave config old new VersionDiffers = HasBadFirstLine (RefusesHaveLine config) old new
    VersionDiffers
RefusesHave config old new Truncated = HasNoLine old
RefusesHave config old new Io = Unit {0}
RefusesHave config old new NoMemory = Unit {0}
RefusesHave config old new _ = ⊥

-- A line can ask it: the bucket is one of 256, the ids are digests that rise, and there are not too
-- many for a line.
pub record IsAskable (q : HaveMessage) : Type 0 where
  pub asked : IsAnyHave (as_any_have q)
  pub short : length (any_have_text (as_any_have q)) ≤ line_limit

-- ---- in a session

-- it is a have of this configuration
pub record IsHaveOf (config : Configuration) (q : HaveMessage) : Type 0 where
  pub askable : IsAskable q
  pub own : q.config ≡ config_id_of config

-- Why the next have is not answered: as when a single one is read, except that the stream may end
-- before its first byte.
abbrev pub RefusesFurther : Configuration → Option (List ℕ) → SyncError → Type 0
RefusesFurther config left BadHeader = (after : Option (List ℕ))
    × HasBadFirstLine (RefusesHaveLine (Some config)) left after BadHeader
RefusesFurther config left ConfigDiffers = (after : Option (List ℕ))
    × HasBadFirstLine (RefusesHaveLine (Some config)) left after ConfigDiffers
RefusesFurther config left VersionDiffers = (after : Option (List ℕ))
    × HasBadFirstLine (RefusesHaveLine (Some config)) left after VersionDiffers
RefusesFurther config left Truncated = HasNoLine left × HasMore left
RefusesFurther config left Io = Unit {0}
RefusesFurther config left NoMemory = Unit {0}
RefusesFurther config left _ = ⊥
