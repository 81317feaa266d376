-- What is shown of an item, as a line or as JSON
use Rattle.std.specs.Prelude.{ℕ, List, []}
use Rattle.receipt_core.specs.declared.distrust.Distrust.{Distrust}
use Rattle.receipt_core.specs.Receipt.{Receipt}
use Rattle.receipt_core.specs.Acceptance.{Meaning}
use Rattle.replica_view.specs.HeldJson.{ShowsReceiptJson, ShowsRecordJson}
use Rattle.replica_view.specs.HeldLines.{ShowsReceipt, ShowsRecord}
use Rattle.replica_view.specs.declared.listing.ShownForm.{ShownForm}
use Rattle.replica_view.specs.declared.listing.ShownForm.TheVariants.{Line, Json}

abbrev pub ShowsReceiptIn : ShownForm → Meaning → Receipt → List ℕ → Type 0
ShowsReceiptIn Line m = ShowsReceipt m []
ShowsReceiptIn Json m = ShowsReceiptJson m

abbrev pub ShowsRecordIn : ShownForm → Distrust → List ℕ → Type 0
ShowsRecordIn Line = ShowsRecord []
ShowsRecordIn Json = ShowsRecordJson
