use Rattle.std.proofs.Common.{◌≡◌, inl, inr, refl, subst, sym}
use Rattle.std.proofs.lemmas.Result.{err_from_is_err_and, IfErr-at_err}
use Rattle.std.specs.Prelude.{IsErrAnd}
use Rattle.std.specs.Io.KnownBytes.{prepend_known}
use Rattle.byte_lines.specs.Ahead.{ahead_of}
use Rattle.replica_core.specs.declared.error.SyncError.TheVariants.{Io, NoMemory, Truncated}
use Rattle.replica_sync.specs.SessionRun.{session_run}
use Rattle.replica_sync.specs.PullSessions.{IsOverPulling, fault_of_pulling}
use Rattle.replica_sync.specs.Inside.Driving.{StopsDriven}
use Rattle.replica_sync.proofs.DrivenPulls.{driven_ends, driven_filled, driven_halts, driven_over, ended_within, ends_there}
use Rattle.replica_sync.proofs.pulling.drive.Goals as goal

pub returns-in_err-send-clause-refused : goal.returns-in_err-send-clause-refused
returns-in_err-send-clause-refused g c =
    let p = err_from_is_err_and c.from_residual.result c.from_residual.ensures.1 in
    rw (p.1, p.2)
    (c.in_err-send.ensures.refused (g.C.Closure.state c.args.closure.now).meaning (g.C.Closure.state c.rounds.closure).meaning
    (g.R.Source.remaining c.args.source.now) (g.W.Sink.contents c.args.sink.now)
    (prepend_known (ahead_of c.rounds.ahead) (g.R.Source.remaining c.rounds.source)) c.rounds.invariant.driven)

pub returns-then-is_over-clause-ok : goal.returns-then-is_over-clause-ok
returns-then-is_over-clause-ok g c =
    let start = (g.C.Closure.state c.args.closure.now).meaning in
    let held = (g.C.Closure.state c.rounds.closure).meaning in
    let source = g.R.Source.remaining c.args.source.now in
    let before = g.W.Sink.contents c.args.sink.now in
    let left = prepend_known (ahead_of c.rounds.ahead) (g.R.Source.remaining c.rounds.source) in
    driven_over start held source before (g.W.Sink.contents c.send.new.sink) left c.send.new.pulling (c.is_over.ensures.0 c.if-is_over.true)
    c.in_ok-send.ensures.none (c.in_ok-send.ensures.ok start held source before left c.rounds.invariant.driven)

pub returns-in_err-reserve-clause-refused : goal.returns-in_err-reserve-clause-refused
returns-in_err-reserve-clause-refused g c =
    let start = (g.C.Closure.state c.args.closure.now).meaning in
    let held = (g.C.Closure.state c.rounds.closure).meaning in
    let source = g.R.Source.remaining c.args.source.now in
    let before = g.W.Sink.contents c.args.sink.now in
    let left = prepend_known (ahead_of c.rounds.ahead) (g.R.Source.remaining c.rounds.source) in
    let p = err_from_is_err_and c.from_residual-in_err-reserve.result c.from_residual-in_err-reserve.ensures.1 in
    rw (p.1, p.2)
    (driven_halts start held source before (g.W.Sink.contents c.send.new.sink) left c.send.new.pulling NoMemory
    (λ over. absurd (let yes = c.is_over.ensures.1 over in let no = c.if-is_over.false in cc)) c.in_ok-send.ensures.none (inr refl)
    (c.in_ok-send.ensures.ok start held source before left c.rounds.invariant.driven))

pub returns-in_err-fill-clause-refused : goal.returns-in_err-fill-clause-refused
returns-in_err-fill-clause-refused g c =
    let start = (g.C.Closure.state c.args.closure.now).meaning in
    let held = (g.C.Closure.state c.rounds.closure).meaning in
    let source = g.R.Source.remaining c.args.source.now in
    let before = g.W.Sink.contents c.args.sink.now in
    let left = prepend_known (ahead_of c.rounds.ahead) (g.R.Source.remaining c.rounds.source) in
    let p = err_from_is_err_and c.from_residual-in_err-fill.result c.from_residual-in_err-fill.ensures.1 in
    rw (p.1, p.2)
    (driven_halts start held source before (g.W.Sink.contents c.send.new.sink) left c.send.new.pulling Io
    (λ over. absurd (let yes = c.is_over.ensures.1 over in let no = c.if-is_over.false in cc)) c.in_ok-send.ensures.none (inl refl)
    (c.in_ok-send.ensures.ok start held source before left c.rounds.invariant.driven))

pub returns-then-not-branch-clause-refused : goal.returns-then-not-branch-clause-refused
returns-then-not-branch-clause-refused g c =
    let start = (g.C.Closure.state c.args.closure.now).meaning in
    let held = (g.C.Closure.state c.rounds.closure).meaning in
    let source = g.R.Source.remaining c.args.source.now in
    let before = g.W.Sink.contents c.args.sink.now in
    let after = g.W.Sink.contents c.send.new.sink in
    let left = prepend_known (ahead_of c.rounds.ahead) (g.R.Source.remaining c.rounds.source) in
    let ahead = ahead_of c.fill.new.self in
    let rest = g.R.Source.remaining c.fill.new.source in
    let machine = c.send.new.pulling in
    let is = c.in_ok-send.ensures.ok start held source before left c.rounds.invariant.driven in
    let ends = c.in_ok-fill.ensures.none c.if-not-branch.true in
    ended_within c.end.result (fault_of_pulling machine) (IsOverPulling machine → ⊥) (StopsDriven (session_run source before after) start held machine)
    is.sound c.end.ensures.refused
    (driven_ends start held source before after (prepend_known ahead rest) machine
    (λ over. absurd (let yes = c.is_over.ensures.1 over in let no = c.if-is_over.false in cc)) c.in_ok-send.ensures.none
    (ends_there ahead rest ends.0 ends.1)
    (driven_filled start (session_run source before after) machine held (ahead_of c.rounds.ahead) (ahead_of c.reserve.new.self) ahead
    (g.R.Source.remaining c.rounds.source) rest c.in_ok-reserve.ensures.kept c.in_ok-fill.ensures.bytes is))

pub returns-then-not-branch-clause-io : goal.returns-then-not-branch-clause-io
returns-then-not-branch-clause-io g c = λ failed.
    let machine = c.send.new.pulling in
    let is = c.in_ok-send.ensures.ok _ _ _ _ _ c.rounds.invariant.driven in
    absurd (let cut : Io ≡ Truncated =
    IfErr-at_err (λ e. e ≡ Truncated) failed
    (ended_within c.end.result (fault_of_pulling machine) (IsOverPulling machine → ⊥) (λ e. e ≡ Truncated) is.sound c.end.ensures.refused refl) in cc)

pub returns-in_err-read_ahead-clause-io : goal.returns-in_err-read_ahead-clause-io
returns-in_err-read_ahead-clause-io g c = λ failed.
    let start = (g.C.Closure.state c.args.closure.now).meaning in
    let held = (g.C.Closure.state c.rounds.closure).meaning in
    let source = g.R.Source.remaining c.args.source.now in
    let before = g.W.Sink.contents c.args.sink.now in
    let run = session_run source before (g.W.Sink.contents c.send.new.sink) in
    let left = prepend_known (ahead_of c.rounds.ahead) (g.R.Source.remaining c.rounds.source) in
    let e = c.in_err-read_ahead.field-0.0 in
    inl ((c.in_err-read_ahead.ensures.refused start run
    (driven_filled start run c.send.new.pulling held (ahead_of c.rounds.ahead) (ahead_of c.reserve.new.self) (ahead_of c.fill.new.self)
    (g.R.Source.remaining c.rounds.source) (g.R.Source.remaining c.fill.new.source) c.in_ok-reserve.ensures.kept c.in_ok-fill.ensures.bytes
    (c.in_ok-send.ensures.ok start held source before left c.rounds.invariant.driven))).1
    (sym (subst (λ r. IsErrAnd r (λ y. y ≡ e)) failed c.from_residual-in_err-read_ahead.ensures.1)))
