-- What the lines of a stream result in under a configuration: the receipts that are taken, and what
-- is reported of the others.
use Rattle.std.specs.Prelude.{◌≡◌, ℕ, ◌+◌, ◌<◌, ◌≤◌, ◌⊎◌, ◌++◌, List, length, codes, decimal}
use Rattle.std.specs.Prelude.{Contains, Some, slice_get}
use Rattle.std.specs.declared.cmp.Ordering.{Ordering}
use Rattle.std.specs.Ordering.{nat_cmp}
use Rattle.std.specs.List.Sorted.{IsStrictlySortedBy}
use Rattle.fed_config.specs.Configuration.{Configuration}
use Rattle.receipt_core.specs.Acceptance.{IsFitting}
use Rattle.receipt_core.specs.Line.{IsLine, IsNoLine}
use Rattle.byte_lines.specs.Lines.{Lines}
use Rattle.receipt_core.specs.Receipt.{Receipt, IsReceipt, line, receipt_cmp}
use Rattle.closure_core.specs.Refusals.{IsOfUnknownDomain, IsOfWrongEndpoint, IsBelowFloor}
use Rattle.receipt_core.specs.Limits.{receipt_limit}
use Rattle.byte_lines.specs.Limits.{line_limit}
use Rattle.fedbundle.specs.declared.line_fault.LineFault.{LineFault}
use Rattle.fedbundle.specs.declared.line_fault.LineFault.TheVariants.{NotCanonical, TooLong}
use Rattle.fedbundle.specs.declared.line_fault.LineFault.TheVariants.{UnknownDomain, WrongEndpoint}
use Rattle.fedbundle.specs.declared.line_fault.LineFault.TheVariants.{BelowFloor, Cut}

-- ---- what is taken

-- The receipt fits, and its line is one of these.
pub record IsTaken (c : Configuration) (texts : List (List ℕ)) (r : Receipt) : Type 0 where
  pub is : IsReceipt r
  pub fits : IsFitting c r
  pub placed : Contains texts (line r)

-- all of them: a set, kept as the sorted list
pub record AreTaken (c : Configuration) (texts : List (List ℕ))
    (receipts : List Receipt) : Type 0 where
  pub rising : IsStrictlySortedBy receipt_cmp receipts
  pub sound : (r : Receipt) → Contains receipts r → IsTaken c texts r
  pub complete : (r : Receipt) → IsTaken c texts r → Contains receipts r

-- There are more of them than a closure holds.
pub record OverfillStore (c : Configuration) (texts : List (List ℕ)) : Type 0 where
  pub some : List Receipt
  pub rising : IsStrictlySortedBy receipt_cmp some
  pub each : (r : Receipt) → Contains some r → IsTaken c texts r
  pub many : receipt_limit c < length some

-- ---- what is reported

-- a line without a receipt that fits, and the cause
abbrev pub IsRefusedLine : Configuration → List ℕ → LineFault → Type 0
IsRefusedLine c text NotCanonical = (length text ≤ line_limit) × IsNoLine text
IsRefusedLine c text TooLong = line_limit < length text
IsRefusedLine c text UnknownDomain = (r : Receipt) × IsLine text r × IsOfUnknownDomain c r
IsRefusedLine c text WrongEndpoint = (r : Receipt) × IsLine text r × IsOfWrongEndpoint c r
IsRefusedLine c text BelowFloor = (r : Receipt) × IsLine text r × IsBelowFloor c r
IsRefusedLine c text _ = ⊥

pub record NumberedError : Type 0 where
  pub number : ℕ
  pub why : LineFault

-- The line of this number, counted from 1, is refused for this cause.
pub record IsOfLine (c : Configuration) (texts : List (List ℕ)) (x : NumberedError) : Type 0 where
  pub place : ℕ
  pub number : x.number ≡ place + 1
  pub text : List ℕ
  pub placed : slice_get texts place ≡ Some text
  pub refused : IsRefusedLine c text x.why

-- The lines are followed by bytes that no line feed ends, whatever they are.
pub record IsOfRest (lines : Lines) (x : NumberedError) : Type 0 where
  pub number : x.number ≡ length lines.whole + 1
  pub why : x.why ≡ Cut
  pub more : 0 < length lines.rest

abbrev pub IsNumberedError : Configuration → Lines → NumberedError → Type 0
IsNumberedError c lines x = IsOfLine c lines.whole x ⊎ IsOfRest lines x

abbrev pub line_error_cmp : NumberedError → NumberedError → Ordering
line_error_cmp x y = nat_cmp x.number y.number

-- all line errors of the lines and their rest, in order
pub record AreLineErrors (c : Configuration) (lines : Lines)
    (line_errors : List NumberedError) : Type 0 where
  pub rising : IsStrictlySortedBy line_error_cmp line_errors
  pub sound : (x : NumberedError) → Contains line_errors x → IsNumberedError c lines x
  pub complete : (x : NumberedError) → IsNumberedError c lines x → Contains line_errors x

-- the first of them, perhaps none and perhaps all
pub record AreFirstLineErrors (c : Configuration) (lines : Lines)
    (line_errors : List NumberedError) : Type 0 where
  pub rising : IsStrictlySortedBy line_error_cmp line_errors
  pub sound : (x : NumberedError) → Contains line_errors x → IsNumberedError c lines x
  pub before : (x y : NumberedError) → Contains line_errors x → IsNumberedError c lines y
      → y.number < x.number → Contains line_errors y

abbrev pub why_text : LineFault → List ℕ
why_text NotCanonical = codes ": not canonical\n"
why_text TooLong = codes ": too long\n"
why_text UnknownDomain = codes ": unknown domain\n"
why_text WrongEndpoint = codes ": wrong endpoint\n"
why_text BelowFloor = codes ": below floor\n"
why_text Cut = codes ": cut\n"

-- a line error's text, as `line 2: not canonical`
abbrev pub line_error_text : NumberedError → List ℕ
line_error_text x = codes "line " ++ (decimal x.number ++ why_text x.why)
