use Rattle.std.proofs.Common.{◌∙◌, ◌+◌, ◌++◌, ℕ, List, ap, length, length-drop, subst, sym, arith}
use Rattle.std.proofs.lemmas.Result.{err_from_is_err_and}
use Rattle.std.specs.Io.KnownBytes.{prepend_known}
use Rattle.receipt_core.specs.Acceptance.{Meaning}
use Rattle.byte_lines.specs.Ahead.{ahead_of}
use Rattle.byte_lines.proofs.StreamFacts.{prepend_known-front}
use Rattle.replica_core.specs.declared.error.SyncError.{SyncError}
use Rattle.replica_core.specs.declared.error.SyncError.TheVariants.{Io, NoMemory}
use Rattle.replica_sync.specs.AnsweredFrom.{answered_from}
use Rattle.replica_sync.specs.SessionRun.{session_run}
use Rattle.replica_sync.specs.Serving.{ServesUpTo}
use Rattle.replica_sync.specs.ServedPieces.{due_give, fault_of_serving, kept_have}
use Rattle.replica_sync.specs.Inside.Serving.{Served}
use Rattle.replica_sync.specs.Inside.ServingSteps.{RefusesPiece, TakesHave}
use Rattle.replica_sync.proofs.ServedPieceFacts.{kept_plain}
use Rattle.replica_sync.proofs.ServingFacts.{served-kept, served-none, served-stops}
use Rattle.replica_sync.proofs.DrivenServing.{few_answers, from_all, served-cut, served-piece, served-refused, served-unwritten, some_taken, within_have}
use Rattle.replica_sync.proofs.serving.serve_one.Goals as goal

pub returns-in_err-reserve-clause-serves : goal.returns-in_err-reserve-clause-serves
returns-in_err-reserve-clause-serves g c =
    let m = (g.C.Closure.state c.args.closure.now).meaning in
    let stream = g.R.Source.remaining c.args.source.now in
    let now = g.W.Sink.contents c.args.sink.now in
    let p = err_from_is_err_and c.from_residual.result c.from_residual.ensures.1 in
    rw (p.1, p.2) (served-stops m stream stream now now 0 NoMemory (served-none m stream now) tt)

pub returns-in_err-fill-clause-serves : goal.returns-in_err-fill-clause-serves
returns-in_err-fill-clause-serves g c =
    let p = err_from_is_err_and c.from_residual-in_err-fill.result c.from_residual-in_err-fill.ensures.1 in
    rw (p.1, p.2)
    (served-stops (g.C.Closure.state c.args.closure.now).meaning (g.R.Source.remaining c.args.source.now)
    (prepend_known (kept_have c.pieces.serving ++ ahead_of c.pieces.ahead) (g.R.Source.remaining c.pieces.source))
    (g.W.Sink.contents c.args.sink.now) (g.W.Sink.contents c.pieces.sink) c.pieces.count Io c.pieces.invariant.served tt)

pub returns-in_err-error_of_line-in-Err-clause-serves : goal.returns-in_err-error_of_line-in-Err-clause-serves
returns-in_err-error_of_line-in-Err-clause-serves g c =
    let p = err_from_is_err_and c.from_residual-in_err-error_of_line-in-Err.result c.from_residual-in_err-error_of_line-in-Err.ensures.1 in
    rw (p.1, p.2)
    (served-stops (g.C.Closure.state c.args.closure.now).meaning (g.R.Source.remaining c.args.source.now)
    (prepend_known (kept_have c.pieces.serving ++ ahead_of c.pieces.ahead) (g.R.Source.remaining c.pieces.source))
    (g.W.Sink.contents c.args.sink.now) (g.W.Sink.contents c.pieces.sink) c.pieces.count Io c.pieces.invariant.served tt)

pub returns-in-Err-clause-serves : goal.returns-in-Err-clause-serves
returns-in-Err-clause-serves g c =
    let m = (g.C.Closure.state c.args.closure.now).meaning in
    let stream = g.R.Source.remaining c.args.source.now in
    let old = g.W.Sink.contents c.args.sink.now in
    let now = g.W.Sink.contents c.pieces.sink in
    let machine = c.pieces.serving in
    let kept = kept_have machine in
    let ahead = ahead_of c.fill.new.self in
    let rest = g.R.Source.remaining c.fill.new.source in
    let why = c.in-Err.why in
    served-refused m stream old now kept ahead rest c.pieces.count why c.in_ok-error_of_line-in-Err.field-0
    (kept_plain machine.part.has_ended machine.part.line.items machine.part.unbroken)
    (c.in_ok-fill.ensures.some c.if-branch.true)
    (served-kept m stream (prepend_known (kept ++ ahead_of c.pieces.ahead) (g.R.Source.remaining c.pieces.source)) (prepend_known (kept ++ ahead) rest)
    old now c.pieces.count c.pieces.invariant.served
    (prepend_known-front kept (ahead_of c.pieces.ahead) ahead (g.R.Source.remaining c.pieces.source) rest c.in_ok-fill.ensures.bytes))
    (subst (λ (k : Meaning). RefusesPiece k kept ahead why) (from_all machine.records m c.pieces.invariant.records)
    (subst (λ (l : List ℕ). RefusesPiece (answered_from machine.records m) kept l why) c.as_slice.ensures
    (c.in-Err.ensures.refused c.pieces.invariant.sound)))
    c.in_ok-error_of_line-in-Err.ensures.line

pub returns-in_err-count-clause-serves : goal.returns-in_err-count-clause-serves
returns-in_err-count-clause-serves g c =
    let m = (g.C.Closure.state c.args.closure.now).meaning in
    let stream = g.R.Source.remaining c.args.source.now in
    let old = g.W.Sink.contents c.args.sink.now in
    let now = g.W.Sink.contents c.pieces.sink in
    let machine = c.pieces.serving in
    let kept = kept_have machine in
    let ahead = ahead_of c.fill.new.self in
    let rest = g.R.Source.remaining c.fill.new.source in
    let used = c.in-Ok.used in
    let then = kept_have c.read.new.self in
    let due = due_give c.read.new.self in
    let p = err_from_is_err_and c.from_residual-in_err-count.result c.from_residual-in_err-count.ensures.1 in
    rw (p.1, p.2)
    (served-unwritten m stream old now (g.W.Sink.contents c.write_due.new.sink) kept ahead then due rest used c.pieces.count
    (served-kept m stream (prepend_known (kept ++ ahead_of c.pieces.ahead) (g.R.Source.remaining c.pieces.source)) (prepend_known (kept ++ ahead) rest)
    old now c.pieces.count c.pieces.invariant.served
    (prepend_known-front kept (ahead_of c.pieces.ahead) ahead (g.R.Source.remaining c.pieces.source) rest c.in_ok-fill.ensures.bytes))
    (subst (λ (k : Meaning). TakesHave k kept ahead used then due) (from_all machine.records m c.pieces.invariant.records)
    (subst (λ (l : List ℕ). TakesHave (answered_from machine.records m) kept l used then due) c.as_slice.ensures
    (c.in-Ok.ensures.step c.pieces.invariant.idle)))
    c.in_err-count.ensures.beginning)

pub pieces-preserved : goal.pieces-preserved
pieces-preserved g c =
    let m = (g.C.Closure.state c.args.closure.now).meaning in
    let stream = g.R.Source.remaining c.args.source.now in
    let old = g.W.Sink.contents c.args.sink.now in
    let now = g.W.Sink.contents c.pieces.sink in
    let new = g.W.Sink.contents c.write_due.new.sink in
    let machine = c.pieces.serving in
    let kept = kept_have machine in
    let ahead = ahead_of c.fill.new.self in
    let later = ahead_of c.pass.new.self in
    let rest = g.R.Source.remaining c.fill.new.source in
    let used = c.in-Ok.used in
    let then = kept_have c.read.new.self in
    let due = due_give c.read.new.self in
    let more = c.in_ok-count.field-0 in
    let takes : TakesHave m kept ahead used then due =
    subst (λ (k : Meaning). TakesHave k kept ahead used then due) (from_all machine.records m c.pieces.invariant.records)
    (subst (λ (l : List ℕ). TakesHave (answered_from machine.records m) kept l used then due) c.as_slice.ensures
    (c.in-Ok.ensures.step c.pieces.invariant.idle)) in
    record {
      served = subst (λ (l : List ℕ). Served m stream (prepend_known (l ++ later) rest) old new (c.pieces.count + more)) (sym c.in_ok-count.ensures.kept)
          (served-piece m stream old now new kept ahead then later due rest used c.pieces.count more
          (served-kept m stream (prepend_known (kept ++ ahead_of c.pieces.ahead) (g.R.Source.remaining c.pieces.source)) (prepend_known (kept ++ ahead) rest)
          old now c.pieces.count c.pieces.invariant.served
          (prepend_known-front kept (ahead_of c.pieces.ahead) ahead (g.R.Source.remaining c.pieces.source) rest c.in_ok-fill.ensures.bytes))
          takes c.pass.ensures.bytes c.in_ok-count.ensures.written c.in_ok-count.ensures.count);
      sound = c.in_ok-count.ensures.sound ∙ c.in-Ok.ensures.fault;
      idle = c.in_ok-count.ensures.idle;
      records = c.in_ok-count.ensures.records ∙ c.in-Ok.ensures.records ∙ c.pieces.invariant.records;
      room = omega (arith, c.pass.ensures.room, c.in_ok-fill.ensures.room);
      below = let few = few_answers due more c.in_ok-count.ensures.count in
          let some = some_taken m kept ahead used then due takes (c.in_ok-fill.ensures.some c.if-branch.true) in
          let size = ap length c.pass.ensures.bytes ∙ length-drop used ahead in
          let spent = c.in_ok-fill.ensures.spends in
          let before = c.pieces.invariant.below in
          omega (arith, few, some.0, some.1, size, spent, before);
      source = c.in_ok-fill.ensures.fault ∙ c.pieces.invariant.source;
      sink = c.in_ok-count.ensures.fault ∙ c.pieces.invariant.sink;
    }

pub returns-in_err-end-clause-serves : goal.returns-in_err-end-clause-serves
returns-in_err-end-clause-serves g c =
    let m = (g.C.Closure.state c.args.closure.now).meaning in
    let stream = g.R.Source.remaining c.args.source.now in
    let old = g.W.Sink.contents c.args.sink.now in
    let now = g.W.Sink.contents c.pieces.sink in
    let machine = c.pieces.serving in
    let kept = kept_have machine in
    let ahead = ahead_of c.fill.new.self in
    let rest = g.R.Source.remaining c.fill.new.source in
    let cut = within_have (fault_of_serving machine) c.in_err-end.field-0.0 _ c.pieces.invariant.sound c.in_err-end.ensures.refused in
    let p = err_from_is_err_and c.from_residual-in_err-end.result c.from_residual-in_err-end.ensures.1 in
    rw (p.1, p.2)
    (subst (ServesUpTo (session_run stream old now) m) (sym {A = SyncError} cut.0)
    (served-cut m stream old now kept ahead rest c.pieces.count (kept_plain machine.part.has_ended machine.part.line.items machine.part.unbroken)
    cut.1 (c.in_ok-fill.ensures.none c.if-branch.false).0 (c.in_ok-fill.ensures.none c.if-branch.false).1
    (served-kept m stream (prepend_known (kept ++ ahead_of c.pieces.ahead) (g.R.Source.remaining c.pieces.source)) (prepend_known (kept ++ ahead) rest)
    old now c.pieces.count c.pieces.invariant.served
    (prepend_known-front kept (ahead_of c.pieces.ahead) ahead (g.R.Source.remaining c.pieces.source) rest c.in_ok-fill.ensures.bytes))))
