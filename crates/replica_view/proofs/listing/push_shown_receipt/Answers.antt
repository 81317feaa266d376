use Rattle.std.proofs.Common.{OnOk, subst, sym}
use Rattle.replica_view.specs.Inside.MadeLines.{PushesLine}
use Rattle.replica_view.specs.Inside.ShownForms.{ShowsReceiptIn}
use Rattle.replica_view.proofs.listing.push_shown_receipt.Goals as goal

pub returns-in-Line : goal.returns-in-Line
returns-in-Line g c =
    subst (λ form. OnOk c.push_receipt.result (PushesLine (ShowsReceiptIn form (g.C.Closure.state c.args.closure.now).meaning c.args.receipt.now)
    c.args.lines.now.items c.push_receipt.new.lines.items)) (sym c.in-Line.is) c.push_receipt.ensures

pub returns-in-Json : goal.returns-in-Json
returns-in-Json g c =
    subst (λ form. OnOk c.push_receipt_json.result (PushesLine (ShowsReceiptIn form (g.C.Closure.state c.args.closure.now).meaning c.args.receipt.now)
    c.args.lines.now.items c.push_receipt_json.new.texts.items)) (sym c.in-Json.is) c.push_receipt_json.ensures
