-- What a run of `migrate` answers if it stops.
use Rattle.std.proofs.Common.{◌≡◌, ◌||◌, ℕ, inl, inr, Err, refl}
use Rattle.byte_lines.specs.Device.{is_source_fault}
use Rattle.byte_lines.specs.declared.error.DeviceError.{DeviceError}
use Rattle.byte_lines.specs.declared.error.DeviceError.TheVariants.{Io as DeviceIo, NoMemory as DeviceNoMemory}
use Rattle.receipt_core.specs.Acceptance.{Meaning}
use Rattle.migration.specs.Carry.{CarriesOver, StopsCarrying}
use Rattle.replica_texts.specs.WrittenSnapshot.{written_snapshot}
use Rattle.fedbundle.specs.CommandRun.{BeginsText, WritesNothing, IsAsSound}
use Rattle.command_exits.specs.DeviceRuns.{DeviceRun}
use Rattle.command_exits.specs.Errors.{of_read}
use Rattle.fedbundle.specs.Migrate.{Move, carry_of, RunsMigrate}

-- If carrying over stopped, nothing was written.
pub stopped : (T : Type 0) (move : Move) (sink line_errors : DeviceRun) (e : DeviceError) → StopsCarrying (carry_of move line_errors) → WritesNothing sink
    → IsAsSound sink → line_errors.has_failed ≡ (is_source_fault {T = T} (Err e) || line_errors.had_failed)
    → RunsMigrate move sink line_errors (Err (of_read e))
stopped T move sink line_errors DeviceIo stops unwritten sound fault = record {
  answer = inl (fault, record { stops = stops; unwritten = unwritten });
  sound = λ unless. absurd (unless refl);
}
stopped T move sink line_errors DeviceNoMemory stops unwritten sound fault = record {
  answer = inl (record { stops = stops; unwritten = unwritten });
  sound = λ unless. (sound, fault);
}

-- If writing the snapshot stopped, a beginning of it was written.
pub cut : (T : Type 0) (move : Move) (sink line_errors : DeviceRun) (carried : Meaning) (n : ℕ) (e : DeviceError)
    → CarriesOver (carry_of move line_errors) carried n
    → BeginsText sink (written_snapshot carried) → sink.has_failed ≡ (is_source_fault {T = T} (Err e) || sink.had_failed) → IsAsSound line_errors
    → RunsMigrate move sink line_errors (Err (of_read e))
cut T move sink line_errors carried n DeviceIo over begun fault sound = record {
  answer = inr (fault, record { count = n; carried = carried; over = over; begun = begun });
  sound = λ unless. absurd (unless refl);
}
cut T move sink line_errors carried n DeviceNoMemory over begun fault sound = record {
  answer = inr (record { count = n; carried = carried; over = over; begun = begun });
  sound = λ unless. (fault, sound);
}
