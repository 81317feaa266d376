-- What a run of a command does to a device.
use Rattle.std.specs.Prelude.{◌≡◌, ℕ, List, Option, Bool, true}

-- A source or a sink, before and after: the bytes that a source still has, or that a sink holds,
-- if the device reports them; and whether it has failed.
pub record DeviceRun : Type 0 where
  pub before : Option (List ℕ)
  pub after : Option (List ℕ)
  pub had_failed : Bool
  pub has_failed : Bool

-- the same, from what a trait says of its devices, the device as it was and the device as it is
abbrev pub device_run : {D : Type 0} → (D → Option (List ℕ)) → (D → Bool) → D → D → DeviceRun
device_run bytes failed old new = record {
  before = bytes old;
  after = bytes new;
  had_failed = failed old;
  has_failed = failed new;
}

-- it has failed afterwards
abbrev pub HasFailed : DeviceRun → Type 0
HasFailed device = device.has_failed ≡ true
