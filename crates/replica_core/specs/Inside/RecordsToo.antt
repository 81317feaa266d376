-- Records of distrust that are taken together.
use Rattle.std.specs.Prelude.{◌≡◌, List, []}
use Rattle.fed_config.specs.Configuration.{Configuration}
use Rattle.receipt_core.specs.declared.distrust.Distrust.{Distrust}
use Rattle.receipt_core.specs.Receipt.{distrust_cmp}
use Rattle.receipt_core.specs.Rising.{with_items}
use Rattle.receipt_core.specs.Acceptance.{Meaning}
use Rattle.closure_core.specs.Changes.{HeldAndRoom}
use Rattle.closure_core.specs.Refusals.{IsRoomier}

-- a meaning without receipts, in which these records are held
abbrev pub only_records : Configuration → List Distrust → Meaning
only_records c records = record {
  config = c;
  held = [];
  records = with_items distrust_cmp records [];
}

-- These records are held as well, and the room is kept or has grown.
pub record HasRecordsToo (old : HeldAndRoom) (records : List Distrust)
    (new : HeldAndRoom) : Type 0 where
  pub meaning : new.meaning
      ≡ record old.meaning { records = with_items distrust_cmp records old.meaning.records }
  pub room : IsRoomier old.room new.room
