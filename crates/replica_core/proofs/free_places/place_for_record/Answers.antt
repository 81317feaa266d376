-- The item has a place, takes no place, or there is no place.
use Rattle.receipt_core.specs.Receipt.{distrust_cmp}
use Rattle.receipt_core.specs.Rising.{with_items}
use Rattle.replica_core.specs.Inside.Earlier.{passed}
use Rattle.replica_core.proofs.PlaceFacts.{always, place-ample, place-held, place-new, place-none, refuted}
use Rattle.replica_core.proofs.free_places.place_for_record.Goals as goal
use Rattle.receipt_core.specs.Limits.{record_limit}

pub returns-then-left-free-clause-place : goal.returns-then-left-free-clause-place
returns-then-left-free-clause-place g c =
    let set = with_items distrust_cmp (passed c.args.before.now) (g.C.Closure.state c.args.closure.now).meaning.records in
    place-ample distrust_cmp (record_limit (g.C.Closure.state c.args.closure.now).meaning.config) set c.args.distrust.now c.args.free c.args.left
    c.requires.left c.requires.places c.if-left-free.true

pub returns-then-is_record_among-clause-place : goal.returns-then-is_record_among-clause-place
returns-then-is_record_among-clause-place g c =
    let held = (g.C.Closure.state c.args.closure.now).meaning.records in
    let set = with_items distrust_cmp (passed c.args.before.now) held in
    let has = c.is_record_among.ensures.among.0 c.if-is_record_among.true in
    place-held distrust_cmp (record_limit (g.C.Closure.state c.args.closure.now).meaning.config) set c.args.distrust.now c.args.free c.args.left
    c.requires.places has
    (c.sets.ensures.records.present c.args.distrust.now set
    (c.sets.ensures.records.all_rise (passed c.args.before.now) held c.config-valid.ensures.valid.records_rising) has)

pub returns-then-free-eq0-clause-place : goal.returns-then-free-eq0-clause-place
returns-then-free-eq0-clause-place g c =
    let set = with_items distrust_cmp (passed c.args.before.now) (g.C.Closure.state c.args.closure.now).meaning.records in
    place-none (record_limit (g.C.Closure.state c.args.closure.now).meaning.config) set c.args.distrust.now c.args.free c.args.left c.requires.places
    c.if-left-free.false
    c.if-free-eq0.true (refuted c.is_record_among.result _ c.if-is_record_among.false c.is_record_among.ensures.among)

pub returns-else-free-eq0-clause-place : goal.returns-else-free-eq0-clause-place
returns-else-free-eq0-clause-place g c =
    let held = (g.C.Closure.state c.args.closure.now).meaning.records in
    let set = with_items distrust_cmp (passed c.args.before.now) held in
    place-new distrust_cmp (record_limit (g.C.Closure.state c.args.closure.now).meaning.config) set c.args.distrust.now c.args.free c.args.left
    c.requires.places c.if-left-free.false c.if-free-eq0.false
    (c.sets.ensures.records.longer c.args.distrust.now set tt
    (c.sets.ensures.records.all_keep (passed c.args.before.now) held (always (passed c.args.before.now)) (always held))
    (refuted c.is_record_among.result _ c.if-is_record_among.false c.is_record_among.ensures.among))
