-- A replica begins with the audit file that it found: the lines at its end whose changes are not
-- held are cut off, and that is put on the disk.
use Rattle.std.specs.Prelude.{◌≡◌, ℕ, ◌⊎◌, ◌++◌, Bool, true, false, List, [], ◌∷◌, length, Option}
use Rattle.std.specs.Prelude.{None, Some, All, Contains, zero, suc}
use Rattle.byte_lines.specs.Lines.{lines_of}
use Rattle.state_steps.specs.declared.cutting.Cutting.{Cutting}
use Rattle.state_steps.specs.declared.cutting.CutStep.{CutStep}
use Rattle.state_steps.specs.declared.cutting.CutStep.TheVariants.{ReadLine, CutLines, SyncCut}
use Rattle.state_steps.specs.declared.cutting.CutStage.{CutStage}
use Rattle.state_steps.specs.declared.cutting.CutStage.TheVariants.{Due, Done, Refused}
use Rattle.state_steps.specs.declared.cutting.LastLine.{LastLine}
use Rattle.state_steps.specs.declared.cutting.LastLine.TheVariants.{Missing, Held, Unheld, Foreign}

-- ---- the order of the steps

-- the step that is due, if one is
abbrev pub cut_step : CutStage → Option CutStep
cut_step (Due step) = Some step
cut_step Done = None
cut_step Refused = None

-- the stage after this one, when the step that is due is done
abbrev pub following_cut : CutStage → CutStage
following_cut (Due ReadLine) = Refused
following_cut (Due CutLines) = Due SyncCut
following_cut (Due SyncCut) = Done
following_cut Done = Done
following_cut Refused = Refused

-- the stage when all lines that are to be cut off were read, and there are this many
abbrev pub with_cut : ℕ → CutStage
with_cut zero = Done
with_cut (suc more) = Due CutLines

-- the stage after this line, when this many were to be cut off before it
abbrev pub with_read_line : LastLine → ℕ → CutStage → CutStage
with_read_line Missing cut (Due ReadLine) = with_cut cut
with_read_line Held cut (Due ReadLine) = with_cut cut
with_read_line Unheld cut (Due ReadLine) = Due ReadLine
with_read_line line cut stage = Refused

-- ---- which lines are cut off

-- The caller says of each line whether it reports what is held. It says so of a line that says what
-- is held at a start too, and not of a part of a line.
abbrev pub AreHeld : (List ℕ → Bool) → List (List ℕ) → Type 0
AreHeld held lines = All (λ line. held line ≡ true) lines

abbrev pub AreUnheld : (List ℕ → Bool) → List (List ℕ) → Type 0
AreUnheld held lines = All (λ line. held line ≡ false) lines

-- There are lines, and of the last one the caller says this.
abbrev pub IsLastAs : (List ℕ → Bool) → Bool → List (List ℕ) → Type 0
IsLastAs held is [] = ⊥
IsLastAs held is (line ∷ []) = held line ≡ is
IsLastAs held is (line ∷ (other ∷ lines)) = IsLastAs held is (other ∷ lines)

-- There are no lines, or the last one reports what is held.
abbrev pub EndsHeld : (List ℕ → Bool) → List (List ℕ) → Type 0
EndsHeld held [] = Unit {0}
EndsHeld held (line ∷ lines) = IsLastAs held true (line ∷ lines)

-- These lines of the file are kept, and those behind are cut off.
pub record IsCutBehind (held : List ℕ → Bool) (stay behind : List (List ℕ)) : Type 0 where
  pub off : AreUnheld held behind
  pub last : EndsHeld held stay

-- what the last of these lines is
abbrev pub IsWhatIsRead : (List ℕ → Bool) → LastLine → List (List ℕ) → Type 0
IsWhatIsRead held Missing lines = lines ≡ []
IsWhatIsRead held Held lines = IsLastAs held true lines
IsWhatIsRead held Unheld lines = IsLastAs held false lines
IsWhatIsRead held Foreign lines = Unit {0}

-- the lines at this stage: those that were not read yet, or are kept, and those behind
abbrev pub IsCutOn : (List ℕ → Bool) → List (List ℕ) → List (List ℕ) → CutStage → Type 0
IsCutOn held stay behind (Due ReadLine) = AreUnheld held behind
IsCutOn held stay behind (Due CutLines) = IsCutBehind held stay behind
IsCutOn held stay behind (Due SyncCut) = IsCutBehind held stay behind
IsCutOn held stay behind Done = IsCutBehind held stay behind
IsCutOn held stay behind Refused = Unit {0}

-- the number of lines that are cut off is the one that was counted
abbrev pub IsCountOn : ℕ → List (List ℕ) → CutStage → Type 0
IsCountOn cut behind (Due step) = cut ≡ length behind
IsCountOn cut behind Done = cut ≡ length behind
IsCountOn cut behind Refused = Unit {0}

-- The next step of the beginning may be done with these lines before those that are cut off, and
-- it has counted the latter.
pub record CutKeeps (held : List ℕ → Bool) (stay behind : List (List ℕ)) (cutting : Cutting)
    : Type 0 where
  pub due : IsCutOn held stay behind cutting.stage
  pub count : IsCountOn cutting.cut behind cutting.stage

-- ---- what is in the file then

-- What is held comes first: none of the lines reports what is held, or the first one does, and so
-- on behind it.
abbrev pub HeldComeFirst : (List ℕ → Bool) → List (List ℕ) → Type 0
HeldComeFirst held [] = Unit {0}
HeldComeFirst held (line ∷ lines) = AreUnheld held (line ∷ lines)
    ⊎ ((held line ≡ true) × HeldComeFirst held lines)

-- The lines that are kept are those that were found whose changes are held, and no other.
pub record IsSame (held : List ℕ → Bool) (found stay : List (List ℕ)) : Type 0 where
  pub all_held : AreHeld held stay
  pub each : (line : List ℕ) → Contains found line → held line ≡ true → Contains stay line

-- the whole lines of a text, and the part of one at its end
abbrev pub with_part : List (List ℕ) → List ℕ → List (List ℕ)
with_part lines [] = lines
with_part lines (byte ∷ part) = lines ++ (byte ∷ part) ∷ []

abbrev pub lines_found : List ℕ → List (List ℕ)
lines_found text = with_part (lines_of text).whole (lines_of text).rest
