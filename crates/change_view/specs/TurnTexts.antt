-- What the journal and the audit file get in a turn, part by part, in one order.
use Rattle.std.specs.Prelude.{◌≡◌, ◌↔◌, ◌≤◌, ◌+◌, ◌++◌, ℕ, List, [], ◌∷◌, Bool, IsTrue, codes}
use Rattle.std.specs.Prelude.{Option, None, Some, flat_map, length}
use Rattle.std.specs.List.{AllByRecursion}
use Rattle.sha2.specs.Sha256.{sha256}
use Rattle.byte_lines.specs.Lines.{lines_of}
use Rattle.state_steps.specs.Cuts.{HeldComeFirst, lines_found}
use Rattle.change_view.specs.ChangeTexts.{audit_line}
use Rattle.change_view.specs.declared.held_change.HeldChange.{HeldChange}
use Rattle.change_view.specs.declared.turn_lines.LinesReport.{LinesReport}
use Rattle.change_view.specs.declared.turn_lines.LinesReport.TheVariants as kind
use Rattle.change_view.specs.declared.turn_lines.TurnLines.{TurnLines}

-- the last of some lines
abbrev pub final_of : List (List ℕ) → List ℕ
final_of [] = []
final_of (line ∷ []) = line
final_of (line ∷ (other ∷ lines)) = final_of (other ∷ lines)

-- the last line of a text, without its line feed
abbrev pub final_line : List ℕ → List ℕ
final_line text = final_of (lines_found text)

-- The line of a change in the audit file names the last of the lines that the journal gets for it.
abbrev pub line_of_change : ℕ → HeldChange → List ℕ → List ℕ
line_of_change moment change lines = audit_line moment change (sha256 (final_line lines))

abbrev pub line_of_report : ℕ → LinesReport → List ℕ → List ℕ
line_of_report moment (kind.Change change) lines = line_of_change moment change.now lines
line_of_report moment kind.Start lines = []
line_of_report moment kind.Lost lines = []

-- The report is the line of this change.
abbrev pub IsReportOf : HeldChange → LinesReport → Type 0
IsReportOf change (kind.Change reported) = reported.now ≡ change
IsReportOf change kind.Start = ⊥
IsReportOf change kind.Lost = ⊥

-- what the audit file gets for a part
abbrev pub part_audit : ℕ → TurnLines → List ℕ
part_audit moment part = line_of_report moment part.report part.lines.now

-- Without an audit file it gets nothing.
abbrev pub line_at : Option ℕ → TurnLines → List ℕ
line_at None part = []
line_at (Some moment) part = part_audit moment part

abbrev pub audit_at : Option ℕ → List TurnLines → List ℕ
audit_at moment turn = flat_map (line_at moment) turn

-- With an audit file nothing is without a report.
abbrev pub IsReportedAt : Option ℕ → LinesReport → Type 0
IsReportedAt None report = Unit {0}
IsReportedAt (Some moment) (kind.Change change) = Unit {0}
IsReportedAt (Some moment) kind.Start = Unit {0}
IsReportedAt (Some moment) kind.Lost = ⊥

abbrev pub AreReportedAt : Option ℕ → List TurnLines → Type 0
AreReportedAt moment turn = AllByRecursion (λ (p : TurnLines). IsReportedAt moment p.report) turn

-- what the journal gets for a part, and for a turn
abbrev pub part_journal : TurnLines → List ℕ
part_journal part = part.lines.now

abbrev pub turn_journal : List TurnLines → List ℕ
turn_journal turn = flat_map part_journal turn

-- ---- what a stop leaves

-- A stop left this many bytes of what the journal gets in the turn. The caller says of a line of
-- the audit file whether its change is held.
pub record StoppedTurn : Type 0 where
  pub left : ℕ
  pub held : List ℕ → Bool

-- The change of this line of the audit file is held exactly if the journal has its lines, which
-- end here.
abbrev pub IsHeldWith : StoppedTurn → (end : ℕ) → List ℕ → Type 0
IsHeldWith stop end text = (line : List ℕ) → text ≡ line ++ codes "\n"
    → IsTrue (stop.held line) ↔ (end ≤ stop.left)

-- So it is with each part. The journal has this many bytes of the turn before them.
abbrev pub HoldsTurn : StoppedTurn → (moment before : ℕ) → List TurnLines → Type 0
HoldsTurn stop moment before [] = Unit {0}
HoldsTurn stop moment before (part ∷ turn) =
    IsHeldWith stop (before + length part.lines.now) (part_audit moment part)
    × HoldsTurn stop moment (before + length part.lines.now) turn

-- Whatever a stop leaves, the lines of the audit file whose changes are held come first.
abbrev pub ComesInOrder : Option ℕ → List TurnLines → List ℕ → Type 0
ComesInOrder None turn audit = Unit {0}
ComesInOrder (Some moment) turn audit = (stop : StoppedTurn) → HoldsTurn stop moment 0 turn
    → HeldComeFirst stop.held (lines_of audit).whole
