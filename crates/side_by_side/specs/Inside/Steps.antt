-- How one line is found, offered and counted.
use Rattle.std.specs.Prelude.{◌≡◌, ℕ, ◌+◌, List, ◌++◌, take, Option, Some, None}
use Rattle.byte_lines.specs.Lines.{HasNoFeed}
use Rattle.closure_core.specs.declared.error.TakeError.{TakeError}
use Rattle.closure_core.specs.declared.error.TakeError.TheVariants.{UnknownDomain, WrongEndpoint}
use Rattle.closure_core.specs.declared.error.TakeError.TheVariants.{BelowFloor, Full, NoMemory}
use Rattle.closure_core.specs.declared.error.TakeError.TheVariants.{ConfigDiffers}
use Rattle.replica_texts.specs.Snapshots.{ended}
use Rattle.side_by_side.specs.declared.fate.Fate.{Fate}
use Rattle.side_by_side.specs.declared.fate.Fate.TheVariants.{Taken, Held, Unfit, NoPlace, Unread}
use Rattle.side_by_side.specs.declared.offer_counts.Offered.{Offered}

-- The first line of the bytes, and what follows its line feed.
pub record IsFirstLine (bytes text after : List ℕ) : Type 0 where
  pub plain : HasNoFeed text
  pub parts : bytes ≡ ended text ++ after

-- what comes of what is refused for this cause, unless memory ran out
abbrev pub fate_when : TakeError → Option Fate
fate_when UnknownDomain = Some Unfit
fate_when WrongEndpoint = Some Unfit
fate_when BelowFloor = Some Unfit
fate_when Full = Some NoPlace
fate_when NoMemory = None
fate_when ConfigDiffers = None

-- the line that was appended after these bytes is kept if what it says was taken
abbrev pub kept_line : Fate → ℕ → List ℕ → List ℕ
kept_line Taken before journal = journal
kept_line Held before journal = take before journal
kept_line Unfit before journal = take before journal
kept_line NoPlace before journal = take before journal
kept_line Unread before journal = take before journal

-- how many lines were offered
abbrev pub offered_count : Offered → ℕ
offered_count o = o.taken + o.held + o.unfit + o.no_place + o.unread
