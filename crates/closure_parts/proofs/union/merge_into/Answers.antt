-- The share of the other is taken in whole.
use Rattle.std.proofs.Common.{◌≡◌, List, refl, sym, ap, subst, ◌∙◌, arith}
use Rattle.std.proofs.lemmas.Result.{err_from_is_err_and}
use Rattle.receipt_core.specs.Acceptance.{Meaning}
use Rattle.receipt_core.specs.declared.distrust.Distrust.{Distrust}
use Rattle.closure_parts.specs.Held.{meaning_of}
use Rattle.closure_parts.specs.Merge.{AreOld, HasNewRecord}
use Rattle.closure_core.specs.Refusals.{IsRoomier}
use Rattle.closure_parts.proofs.JoinFacts.{on_ok, refuses_same, share_same, share_known, share_welcome, share_merged, share_spent, share_wants}
use Rattle.closure_parts.proofs.union.merge_into.Goals as goal

pub returns-in_err-share-clause-merges : goal.returns-in_err-share-clause-merges
returns-in_err-share-clause-merges g c =
    let p = err_from_is_err_and c.from_residual.result c.from_residual.ensures.1 in
    rw (p.1, p.2) (record {
      cause = refuses_same (meaning_of c.held.result.now) (g.C.Mergeable.state c.args.closure.now).meaning
          (meaning_of c.held-2.result.now) (g.C.Mergeable.state c.args.other.now).meaning c.in_err-share.field-0.0
          c.held.ensures c.held-2.ensures c.in_err-share.ensures;
      unchanged = record { meaning = refl; room = record { receipts = omega arith; offers = omega arith } };
    })

pub returns-then-is_err-clause-merges : goal.returns-then-is_err-clause-merges
returns-then-is_err-clause-merges g c =
    let m = (g.C.Mergeable.state c.args.closure.now).meaning in
    let other = (g.C.Mergeable.state c.args.other.now).meaning in
    let share = c.in_ok-share.share in
    record {
      cause = share_wants m other share (g.C.Mergeable.state c.args.closure.now).room c.len-count.result c.make_room.result
          (share_same (meaning_of c.held.result.now) m (meaning_of c.held-2.result.now) other share c.held.ensures c.held-2.ensures c.in_ok-share.ensures)
          (c.len-count.ensures ∙ share.copies.ok.0) (sym c.is_err.ensures.value ∙ c.if-is_err.true) c.make_room.ensures.within;
      unchanged = record { meaning = c.make_room.ensures.meaning; room = c.make_room.ensures.room };
    }

pub distrust_all-requires : goal.distrust_all-requires
distrust_all-requires g c =
    let m = (g.C.Mergeable.state c.args.closure.now).meaning in
    let other = (g.C.Mergeable.state c.args.other.now).meaning in
    let share = c.in_ok-share.share in
    share_known m (g.C.Mergeable.state c.make_room.new.self).meaning other share c.distrusts.result
    (share_same (meaning_of c.held.result.now) m (meaning_of c.held-2.result.now) other share c.held.ensures c.held-2.ensures c.in_ok-share.ensures)
    c.make_room.ensures.meaning (c.distrusts.ensures ∙ ap (λ (k : Meaning). k.records) c.held-3.ensures)

pub take_all-requires : goal.take_all-requires
take_all-requires g c =
    let m = (g.C.Mergeable.state c.args.closure.now).meaning in
    let other = (g.C.Mergeable.state c.args.other.now).meaning in
    let share = c.in_ok-share.share in
    let is = share_same (meaning_of c.held.result.now) m (meaning_of c.held-2.result.now) other share c.held.ensures c.held-2.ensures c.in_ok-share.ensures in
    let size = c.len-count.ensures ∙ share.copies.ok.0 in
    let roomier =
    on_ok c.make_room.result (IsRoomier (record { receipts = c.len-count.result; offers = share.offers })
    (g.C.Mergeable.state c.make_room.new.self).room) (sym c.is_err.ensures.value ∙ c.if-is_err.false)
    c.make_room.ensures.ok in
    share_welcome m other (g.C.Mergeable.state c.make_room.new.self)
    (g.C.Mergeable.state c.distrust_all.new.self) share c.distrusts.result is
    c.make_room.ensures.meaning c.distrust_all.ensures.meaning c.distrust_all.ensures.room
    (subst (λ k. IsRoomier (record { receipts = k; offers = share.offers }) (g.C.Mergeable.state c.make_room.new.self).room) size roomier)

pub returns-clause-merges : goal.returns-clause-merges
returns-clause-merges g c =
    let m = (g.C.Mergeable.state c.args.closure.now).meaning in
    let other = (g.C.Mergeable.state c.args.other.now).meaning in
    let share = c.in_ok-share.share in
    let is = share_same (meaning_of c.held.result.now) m (meaning_of c.held-2.result.now) other share c.held.ensures c.held-2.ensures c.in_ok-share.ensures in
    let roomy = g.C.Mergeable.state c.make_room.new.self in
    let less = g.C.Mergeable.state c.distrust_all.new.self in
    let new = g.C.Mergeable.state c.take_all.new.closure in
    let size = c.len-count.ensures ∙ share.copies.ok.0 in
    share_spent (g.C.Mergeable.state c.args.closure.now) roomy less new other share c.len-count.result is size
    (share_merged m other roomy.meaning less.meaning new.meaning share c.distrusts.result c.len-count.result is size
    (c.distrusts.ensures ∙ ap (λ (k : Meaning). k.records) c.held-3.ensures)
    c.make_room.ensures.meaning c.distrust_all.ensures.meaning c.take_all.ensures.meaning)
    c.make_room.ensures.room c.distrust_all.ensures.room c.take_all.ensures.room

pub returns-clause-work : goal.returns-clause-work
returns-clause-work g c =
    let start = c.args.closure.now in
    let other = (g.C.Mergeable.state c.args.other.now).meaning in
    let own : c.distrusts.result ≡ other.records = c.distrusts.ensures
    ∙ ap (λ (k : Meaning). k.records) c.held-3.ensures in (
      λ old. c.take_all.ensures.same_work
          ∙ c.distrust_all.ensures.none_new (subst (AreOld (g.C.Mergeable.state c.make_room.new.self).meaning) (sym own)
          (subst (λ (k : Meaning). AreOld k other.records) (sym c.make_room.ensures.meaning) old))
          ∙ c.make_room.ensures.same_work,
      λ new. subst (g.C.Mergeable.IsWork start other.records) (sym c.take_all.ensures.same_work)
          (subst (λ (xs : List Distrust). g.C.Mergeable.IsWork start xs
          (g.C.Mergeable.work_done c.distrust_all.new.self)) own
          (c.make_room.ensures.work c.distrusts.result (g.C.Mergeable.work_done c.distrust_all.new.self)
          (c.distrust_all.ensures.some_new (subst (HasNewRecord (g.C.Mergeable.state c.make_room.new.self).meaning) (sym own)
          (subst (λ (k : Meaning). HasNewRecord k other.records) (sym c.make_room.ensures.meaning) new))))),
    )
