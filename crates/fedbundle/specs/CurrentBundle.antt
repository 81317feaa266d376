-- What a run of `bundle` does. It reads nothing.
use Rattle.std.specs.Prelude.{ℕ, ◌++◌, List, [], ◌∷◌, Some, None, Bool, true, false}
use Rattle.std.specs.Prelude.{Result, Ok, Err}
use Rattle.bundle_doc.specs.Bundle.{Bundle, canonical_text}
use Rattle.pem_text.specs.Pem.{certificates_pem}
use Rattle.bundle_view.specs.Current.{IsCurrent}
use Rattle.receipt_core.specs.Acceptance.{Meaning}
use Rattle.fedbundle.specs.CommandRun.{PrintsText, WritesNothing, CutsOff}
use Rattle.command_exits.specs.DeviceRuns.{DeviceRun}
use Rattle.command_exits.specs.declared.error.CommandError.{CommandError}
use Rattle.command_exits.specs.declared.error.CommandError.TheVariants.{Io, NoMemory}

abbrev pub bundle_text : Bundle → List ℕ
bundle_text b = canonical_text b ++ 10 ∷ []

-- By the answer: the domain's current document was written, and nothing else; it has none, and
-- nothing was written; it has one, and the sink failed after a beginning of it. There is no other
-- error.
abbrev pub RunsBundle : DeviceRun → Meaning → List ℕ → Result Bool CommandError → Type 0
RunsBundle sink m domain (Ok true) = (b : Bundle) × IsCurrent m domain (Some b)
    × PrintsText sink (bundle_text b)
RunsBundle sink m domain (Ok false) = IsCurrent m domain None × WritesNothing sink
RunsBundle sink m domain (Err Io) = (b : Bundle) × IsCurrent m domain (Some b)
    × CutsOff sink (bundle_text b)
RunsBundle sink m domain (Err _) = ⊥

-- The same with the certificates of its X.509 authorities as PEM; if memory ran out, nothing was
-- written.
abbrev pub RunsBundlePem : DeviceRun → Meaning → List ℕ → Result Bool CommandError → Type 0
RunsBundlePem sink m domain (Ok true) = (b : Bundle) × IsCurrent m domain (Some b)
    × PrintsText sink (certificates_pem b.authorities)
RunsBundlePem sink m domain (Ok false) = IsCurrent m domain None × WritesNothing sink
RunsBundlePem sink m domain (Err Io) = (b : Bundle) × IsCurrent m domain (Some b)
    × CutsOff sink (certificates_pem b.authorities)
RunsBundlePem sink m domain (Err NoMemory) = WritesNothing sink
RunsBundlePem sink m domain (Err _) = ⊥
