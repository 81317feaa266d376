use Rattle.std.proofs.Common.{◌≡◌, ◌∙◌, ◌++◌, ap, sym, map, append-nil, rules}
use Rattle.receipt_core.specs.Receipt.{receipt_id_of}
use Rattle.closure_core.specs.AcceptedList.{receipts_in}
use Rattle.replica_core.proofs.HaveFacts.{bytes_of}
use Rattle.replica_core.proofs.IdFacts.{more-gathered}
use Rattle.replica_core.proofs.asking.gathered.Goals as goal

pub loop-receipt-preserved : goal.loop-receipt-preserved
loop-receipt-preserved g c =
    more-gathered c.in-Some.receipt.now c.id.result c.loop-receipt.receipt-iterator c.next.new.self c.loop-receipt.ids.items c.push.new.self.items _
    c.in-Some.ensures.steps c.id.ensures c.in_ok-push.ensures.items c.loop-receipt.invariant

pub returns : goal.returns
returns g c =
    let all : c.into_iter-receipt-iterator.result ≡ receipts_in c.args.bucket
    (g.C.Closure.state c.args.closure.now).meaning.held = first_of (cc, search rules) in
    sym (append-nil (map bytes_of c.loop-receipt.ids.items))
    ∙ ap (λ rest. map bytes_of c.loop-receipt.ids.items ++ map receipt_id_of rest) (sym c.in-None.ensures.steps.0)
    ∙ c.loop-receipt.invariant ∙ ap (map receipt_id_of) all
