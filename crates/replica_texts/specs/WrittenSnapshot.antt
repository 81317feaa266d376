-- The snapshot that is written, in the later of the two formats.
use Rattle.std.specs.Prelude.{ℕ, List}
use Rattle.receipt_core.specs.Acceptance.{Meaning}
use Rattle.replica_texts.specs.Snapshots.{snapshot_text}
use Rattle.replica_texts.specs.declared.format.Format.TheVariants.{Second}

abbrev pub written_snapshot : Meaning → List ℕ
written_snapshot m = snapshot_text Second m
