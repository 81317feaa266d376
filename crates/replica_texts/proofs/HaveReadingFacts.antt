-- Why a have is not read, from the error of its line.
use Rattle.std.proofs.Common.{ℕ, ◌≤◌, inl, inr, List, length, Option, sym, subst}
use Rattle.byte_lines.specs.Lines.{HasLine}
use Rattle.replica_core.specs.declared.error.SyncError.{SyncError}
use Rattle.replica_texts.specs.Inside.HaveLines.{RefusesAnyHave, RefusesNextHave}

-- A first line that asks nothing is why no have is read.
pub refused-line : (old new : Option (List ℕ)) (text : List ℕ) (e : SyncError) → HasLine old new text → length text ≤ 8388608
    → RefusesAnyHave text e → RefusesNextHave old new e
refused-line old new text e is short (inl none) = subst (RefusesNextHave old new) (sym none.0) (record { text = text; is = is; cause = inr (short, none.1) })
refused-line old new text e is short (inr memory) = subst (RefusesNextHave old new) (sym memory) tt
