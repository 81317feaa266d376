-- What the texts of options say that are values of the crates below: a time, and how `status` is
-- written.
use Rattle.std.specs.Prelude.{◌≡◌, ◌⊎◌, ℕ, ℤ, List, Option, Some, None, codes}
use Rattle.jiff.specs.Words.{IsTimestampNanos, nanos_of_seconds}
use Rattle.poll_log.specs.PollLines.{ReadsSeconds}
use Rattle.status_view.specs.declared.status_format.StatusFormat.{StatusFormat}
use Rattle.status_view.specs.declared.status_format.StatusFormat.TheVariants as status

abbrev pub SaysStatusFormat : Option (List ℕ) → StatusFormat → Type 0
SaysStatusFormat text status.Text = (text ≡ None) ⊎ (text ≡ Some (codes "text"))
SaysStatusFormat text status.Json = text ≡ Some (codes "json")
SaysStatusFormat text status.Prometheus = text ≡ Some (codes "prometheus")

abbrev pub SaysNoStatusFormat : Option (List ℕ) → Type 0
SaysNoStatusFormat text = (format : StatusFormat) → SaysStatusFormat text format → ⊥

-- Unix seconds as a time, in nanoseconds
pub record SaysMoment (text : List ℕ) (moment : ℤ) : Type 0 where
  pub seconds : ℤ
  pub reads : ReadsSeconds text (Some seconds)
  pub is : moment ≡ nanos_of_seconds seconds

-- The text is not that of a number of seconds, or is of one that is out of the range of times.
abbrev pub SaysBadMoment : List ℕ → Type 0
SaysBadMoment text = ReadsSeconds text None ⊎ ((seconds : ℤ) × ReadsSeconds text (Some seconds)
    × (IsTimestampNanos (nanos_of_seconds seconds) → ⊥))
