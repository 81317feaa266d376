-- What one call changes in a session that is served.
use Rattle.std.specs.Prelude.{ℕ, ◌+◌, List, ◌++◌, length, Option}
use Rattle.std.specs.Io.KnownBytes.{Appends}
use Rattle.fed_config.specs.Configuration.{Configuration}
use Rattle.replica_sync.specs.ServedPieces.{Came, due_give}
use Rattle.bucket_sums.specs.Quiet.{HasServedQuietly, due_marks}
use Rattle.bucket_sums.specs.declared.quiet_serving.Opening.{Opening}
use Rattle.bucket_sums.specs.declared.quiet_serving.Opening.TheVariants.{FirstLine, Question, Plain}
use Rattle.bucket_sums.specs.declared.quiet_serving.Opening.TheVariants.{Answered}
use Rattle.bucket_sums.specs.declared.quiet_serving.QuietServing.{QuietServing}

-- how often the session may still turn to something else
abbrev pub turns_of : Opening → ℕ
turns_of (FirstLine part) = 2
turns_of (Question question) = 1
turns_of Plain = 0
turns_of Answered = 0

abbrev pub turns_left : QuietServing → ℕ
turns_left s = turns_of s.opening

-- how many bytes are to be written
abbrev pub bytes_owed : QuietServing → ℕ
bytes_owed s = length (due_marks s) + length (due_give s.haves)

-- This is written of what is due, and appended to what the sink has.
pub record GivesQuietly (before : QuietServing) (old new : Option (List ℕ))
    (after : QuietServing) : Type 0 where
  pub written : List ℕ
  pub wrote : Appends old new written
  pub serves : (config : Configuration) (came : List Came) (said : List ℕ)
      → HasServedQuietly config before came said
      → HasServedQuietly config after came (said ++ written)
