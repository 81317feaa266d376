use Rattle.std.proofs.Common.{◌∙◌, ◌<◌, take, drop, ap, subst, sym}
use Rattle.std.proofs.KnownBytes.{Keeps-refl}
use Rattle.std.specs.Io.KnownBytes.{Appends, Consumes, prepend_known}
use Rattle.byte_lines.specs.Ahead.{ahead_of, chunk_room}
use Rattle.replica_sync.specs.PulledPieces.{PulledPiece}
use Rattle.replica_sync.proofs.PullLinesFacts.{config_then}
use Rattle.bucket_sums.specs.QuietRuns.{session_state}
use Rattle.bucket_sums.proofs.QuietRunFacts.{all_ahead, first_ahead, none_ahead, run_as, run_both, run_read, run_still, run_wrote}
use Rattle.bucket_sums.proofs.quiet_session.pull_quietly.Goals.{then-not-is_empty+in_ok-count, else-not-is_empty+else-is_over+in_ok-fill+then-branch+in_ok-used}
use Rattle.bucket_sums.proofs.quiet_session.pull_quietly.Goals as goal

pub returns-in_err-reserve-clause-runs : goal.returns-in_err-reserve-clause-runs
returns-in_err-reserve-clause-runs g c =
    let source = g.R.Source.remaining c.args.source.now in
    let sink = g.W.Sink.contents c.args.sink.now in (
      source,
      run_still c.args.session.now (g.C.Closure.state c.args.closure.now).meaning source source sink sink (Keeps-refl source) (Keeps-refl sink),
    )

pub steps-init : goal.steps-init
steps-init g c =
    let source = g.R.Source.remaining c.args.source.now in
    let sink = g.W.Sink.contents c.args.sink.now in
    let bytes = ahead_of c.reserve.new.self in
    record {
      runs = run_still c.args.session.now (g.C.Closure.state c.args.closure.now).meaning source (prepend_known bytes source) sink sink
          (none_ahead bytes source (c.in_ok-reserve.ensures.kept ∙ c.new-ahead.ensures)) (Keeps-refl sink);
      room = c.in_ok-reserve.ensures.room;
    }

pub returns-in_err-used-clause-runs : goal.returns-in_err-used-clause-runs
returns-in_err-used-clause-runs g c =
    let m = (g.C.Closure.state c.steps.closure).meaning in
    let n = (g.C.Closure.state c.read_lines.new.closure).meaning in
    let before = prepend_known (ahead_of c.steps.ahead) (g.R.Source.remaining c.steps.source) in
    let bytes = ahead_of c.fill.new.self in
    let later = g.R.Source.remaining c.fill.new.source in
    let sink = g.W.Sink.contents c.steps.sink in
    let piece : PulledPiece = record { bytes = c.as_slice.result.now; old = m; new = n } in (
      later,
      run_both c.args.session.now _ (session_state m before sink) c.steps.session (session_state n later sink) c.read_lines.new.self
          c.steps.invariant.runs
          (run_both c.steps.session (session_state m before sink) (session_state m (prepend_known bytes later) sink) c.steps.session
          (session_state n later sink) c.read_lines.new.self
          (run_still c.steps.session m before (prepend_known bytes later) sink sink c.in_ok-fill.ensures.bytes (Keeps-refl sink))
          (run_read c.steps.session c.read_lines.new.self piece (prepend_known bytes later) later sink c.in_err-used.ensures.pulls
          (config_then _ _ _ _ c.in_err-used.ensures.journals)
          (subst (Consumes (prepend_known bytes later) later) (sym c.as_slice.ensures) (all_ahead bytes later)))),
    )

pub steps-preserved : goal.steps-preserved
steps-preserved g c =
    let m = (g.C.Closure.state c.steps.closure).meaning in
    let before = prepend_known (ahead_of c.steps.ahead) (g.R.Source.remaining c.steps.source) in
    let sink = g.W.Sink.contents c.steps.sink in
    let joined = c.if-not-is_empty in
    elim c.if-not-is_empty.branch [
      | then-not-is_empty+in_ok-count w ↦
          let then = g.W.Sink.contents w.write.new.self in
          let count = w.in_ok-count.count in
          record {
            runs = run_as c.args.session.now _ _ m _ before _ then _ w.wrote.new.self
                (ap (λ x. (g.C.Closure.state x).meaning) w.closure-is)
                (ap (λ x. prepend_known (ahead_of x) (g.R.Source.remaining joined.source)) w.ahead-is
                ∙ ap (λ x. prepend_known (ahead_of c.steps.ahead) (g.R.Source.remaining x)) w.source-is)
                (ap (λ x. g.W.Sink.contents x) w.sink-is) w.session-is
                (run_both c.args.session.now _ (session_state m before sink) c.steps.session (session_state m before then) w.wrote.new.self
                c.steps.invariant.runs
                (run_wrote c.steps.session w.wrote.new.self m before sink then _
                (subst (λ l. Appends sink then (take count l)) w.output-then-not-is_empty.ensures w.in_ok-count.ensures.appends)
                w.wrote.ensures.pulls));
            room = subst (λ x. 0 < chunk_room x) (sym w.ahead-is) c.steps.invariant.room;
          }
      | else-not-is_empty+else-is_over+in_ok-fill+then-branch+in_ok-used w ↦
          let n = (g.C.Closure.state w.read_lines.new.closure).meaning in
          let bytes = ahead_of w.fill.new.self in
          let later = g.R.Source.remaining w.fill.new.source in
          let used = w.in_ok-used.used in
          let rest = prepend_known (drop used bytes) later in
          let piece : PulledPiece = record { bytes = take used w.as_slice.result.now; old = m; new = n } in
          record {
            runs = run_as c.args.session.now _ _ n _ rest _ sink _ w.read_lines.new.self
                (ap (λ x. (g.C.Closure.state x).meaning) w.closure-is)
                (ap (λ x. prepend_known (ahead_of x) (g.R.Source.remaining joined.source)) w.ahead-is
                ∙ ap (λ x. prepend_known (ahead_of w.pass.new.self) (g.R.Source.remaining x)) w.source-is
                ∙ ap (λ l. prepend_known l later) w.pass.ensures.bytes)
                (ap (λ x. g.W.Sink.contents x) w.sink-is) w.session-is
                (run_both c.args.session.now _ (session_state m before sink) c.steps.session (session_state n rest sink) w.read_lines.new.self
                c.steps.invariant.runs
                (run_both c.steps.session (session_state m before sink) (session_state m (prepend_known bytes later) sink) c.steps.session
                (session_state n rest sink) w.read_lines.new.self
                (run_still c.steps.session m before (prepend_known bytes later) sink sink w.in_ok-fill.ensures.bytes (Keeps-refl sink))
                (run_read c.steps.session w.read_lines.new.self piece (prepend_known bytes later) rest sink w.in_ok-used.ensures.pulls
                (config_then _ _ _ _ w.in_ok-used.ensures.journals)
                (subst (λ l. Consumes (prepend_known bytes later) rest (take used l)) (sym w.as_slice.ensures) (first_ahead bytes used later)))));
            room = subst (λ x. 0 < chunk_room x) (sym w.ahead-is)
                (subst (λ k. 0 < k) (sym (w.pass.ensures.room ∙ w.in_ok-fill.ensures.room)) c.steps.invariant.room);
          }
    ]
