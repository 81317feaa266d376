-- The item has a place, takes no place, or there is no place.
use Rattle.receipt_core.specs.Receipt.{receipt_cmp}
use Rattle.receipt_core.specs.Rising.{with_items}
use Rattle.replica_core.specs.Inside.Earlier.{passed}
use Rattle.replica_core.proofs.PlaceFacts.{place-ample, place-held, place-new, place-none, refuted}
use Rattle.replica_core.proofs.free_places.place_for_receipt.Goals as goal
use Rattle.receipt_core.specs.Limits.{receipt_limit}

pub returns-then-left-free-clause-place : goal.returns-then-left-free-clause-place
returns-then-left-free-clause-place g c =
    let set = with_items receipt_cmp (passed c.args.before.now) (g.C.Closure.state c.args.closure.now).meaning.held in
    place-ample receipt_cmp (receipt_limit (g.C.Closure.state c.args.closure.now).meaning.config) set c.args.receipt.now c.args.free c.args.left
    c.requires.left c.requires.places c.if-left-free.true

pub returns-then-is_receipt_among-clause-place : goal.returns-then-is_receipt_among-clause-place
returns-then-is_receipt_among-clause-place g c =
    let held = (g.C.Closure.state c.args.closure.now).meaning.held in
    let set = with_items receipt_cmp (passed c.args.before.now) held in
    let has = c.is_receipt_among.ensures.among.0 c.if-is_receipt_among.true in
    place-held receipt_cmp (receipt_limit (g.C.Closure.state c.args.closure.now).meaning.config) set c.args.receipt.now c.args.free c.args.left
    c.requires.places has
    (c.sets.ensures.receipts.present c.args.receipt.now set
    (c.sets.ensures.receipts.all_rise (passed c.args.before.now) held c.config-valid.ensures.valid.rising) has)

pub returns-then-free-eq0-clause-place : goal.returns-then-free-eq0-clause-place
returns-then-free-eq0-clause-place g c =
    let set = with_items receipt_cmp (passed c.args.before.now) (g.C.Closure.state c.args.closure.now).meaning.held in
    place-none (receipt_limit (g.C.Closure.state c.args.closure.now).meaning.config) set c.args.receipt.now c.args.free c.args.left c.requires.places
    c.if-left-free.false
    c.if-free-eq0.true (refuted c.is_receipt_among.result _ c.if-is_receipt_among.false c.is_receipt_among.ensures.among)

pub returns-else-free-eq0-clause-place : goal.returns-else-free-eq0-clause-place
returns-else-free-eq0-clause-place g c =
    let held = (g.C.Closure.state c.args.closure.now).meaning.held in
    let set = with_items receipt_cmp (passed c.args.before.now) held in
    place-new receipt_cmp (receipt_limit (g.C.Closure.state c.args.closure.now).meaning.config) set c.args.receipt.now c.args.free c.args.left
    c.requires.places c.if-left-free.false c.if-free-eq0.false
    (c.sets.ensures.receipts.longer c.args.receipt.now set c.requires.form
    (c.sets.ensures.receipts.all_keep (passed c.args.before.now) held c.requires.forms c.config-valid.ensures.valid.receipts)
    (refuted c.is_receipt_among.result _ c.if-is_receipt_among.false c.is_receipt_among.ensures.among))
