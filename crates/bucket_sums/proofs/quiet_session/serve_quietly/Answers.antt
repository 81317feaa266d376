use Rattle.std.proofs.Common.{◌≡◌, ◌∙◌, ◌+◌, ◌<◌, ◌++◌, ◌∷◌, List, ℕ, [], inl, inr, refl, sym, ap, subst, take, drop, length, arith, length-drop}
use Rattle.std.proofs.KnownBytes.{Keeps-refl}
use Rattle.std.proofs.lemmas.List.{length-take}
use Rattle.std.proofs.lemmas.Result.{err_from_is_err_and}
use Rattle.std.specs.Prelude.{Err, Ok}
use Rattle.std.specs.Io.KnownBytes.{prepend_known}
use Rattle.byte_lines.specs.Ahead.{ahead_of}
use Rattle.replica_sync.specs.ServedPieces.{came_taken}
use Rattle.bucket_sums.specs.QuietRuns.{HasServedRun, session_state}
use Rattle.bucket_sums.proofs.QuietRunFacts.{none_ahead}
use Rattle.bucket_sums.proofs.QuietServeFacts.{asked_came, feeds_few, feeds_on, none_left, rest_after, served_gave, served_kept, served_none}
use Rattle.bucket_sums.proofs.QuietServeFacts.{served_read, stops_at_end}
use Rattle.bucket_sums.proofs.quiet_session.serve_quietly.Goals as goal

pub returns-in_err-reserve-clause-serves : goal.returns-in_err-reserve-clause-serves
returns-in_err-reserve-clause-serves g c =
    let m = (g.C.Closure.state c.args.closure.now).meaning in
    let source = g.R.Source.remaining c.args.source.now in
    let sink = g.W.Sink.contents c.args.sink.now in
    let p = err_from_is_err_and c.from_residual.result c.from_residual.ensures.1 in
    rw (p.1, p.2)
    (record {
      session = c.new-session.result;
      came = [];
      rest = source;
      run = served_none c.new-session.result m source source sink (c.new-session.ensures.begins m.config) (Keeps-refl source);
      ends = inr (inr (inl (refl, refl)));
    })

pub pieces-init : goal.pieces-init
pieces-init g c =
    let m = (g.C.Closure.state c.args.closure.now).meaning in
    let source = g.R.Source.remaining c.args.source.now in
    let sink = g.W.Sink.contents c.args.sink.now in
    let bytes = ahead_of c.reserve.new.self in
    let none = c.in_ok-reserve.ensures.kept ∙ c.new-ahead.ensures in
    record {
      run = (
        [],
        served_none c.new-session.result m source (prepend_known bytes source) sink (c.new-session.ensures.begins m.config)
            (none_ahead bytes source none),
        refl,
      );
      idle = c.new-session.ensures.idle;
      same = refl;
      room = c.in_ok-reserve.ensures.room;
      below = let size = ap length none in let bound = g.met.R.Source.bounded c.args.source.now in omega (arith, size, bound);
      source = refl;
      sink = refl;
    }

pub returns-in_err-fill-clause-serves : goal.returns-in_err-fill-clause-serves
returns-in_err-fill-clause-serves g c =
    let run = c.pieces.invariant.run in
    let p = err_from_is_err_and c.from_residual-in_err-fill.result c.from_residual-in_err-fill.ensures.1 in
    rw (p.1, p.2)
    (record {
      session = c.pieces.session;
      came = run.0;
      rest = prepend_known (ahead_of c.pieces.ahead) (g.R.Source.remaining c.pieces.source);
      run = run.1;
      ends = inr (inr (inr (refl, inl c.in_err-fill.ensures.fault)));
    })

pub returns-in_err-give_due-clause-serves : goal.returns-in_err-give_due-clause-serves
returns-in_err-give_due-clause-serves g c =
    let m = (g.C.Closure.state c.args.closure.now).meaning in
    let k = (g.C.Closure.state c.pieces.closure).meaning in
    let old = session_state m (g.R.Source.remaining c.args.source.now) (g.W.Sink.contents c.args.sink.now) in
    let sink = g.W.Sink.contents c.pieces.sink in
    let bytes = ahead_of c.fill.new.self in
    let piece = c.as_slice-piece.result.now in
    let later = g.R.Source.remaining c.fill.new.source in
    let came = c.pieces.invariant.run.0 in
    let more = came ++ came_taken piece k c.read-taken.result ∷ [] in
    let rest = rest_after bytes later c.read-taken.result in
    let same = ap (λ x. (g.C.Closure.state x).meaning) c.pieces.invariant.same in
    let filled = served_kept c.pieces.session old m _ (prepend_known bytes later) sink came c.pieces.invariant.run.1 c.in_ok-fill.ensures.bytes in
    let read = served_read c.pieces.session c.read-taken.new.self old m k bytes piece later sink came c.read-taken.result c.as_slice-piece.ensures same filled
    c.read-taken.ensures.serves in
    let p = err_from_is_err_and c.from_residual-in_err-give_due.result c.from_residual-in_err-give_due.ensures.1 in
    rw (p.1, p.2)
    (record {
      session = c.give_due.new.session;
      came = more;
      rest = rest;
      run = served_gave c.read-taken.new.self c.give_due.new.session old m rest sink (g.W.Sink.contents c.give_due.new.sink) more read
          c.in_err-give_due.ensures.gives;
      ends = inr (inr (inr (refl, inr c.in_err-give_due.ensures.fault)));
    })

pub returns-in_err-used-clause-serves : goal.returns-in_err-used-clause-serves
returns-in_err-used-clause-serves g c =
    let m = (g.C.Closure.state c.args.closure.now).meaning in
    let k = (g.C.Closure.state c.pieces.closure).meaning in
    let old = session_state m (g.R.Source.remaining c.args.source.now) (g.W.Sink.contents c.args.sink.now) in
    let sink = g.W.Sink.contents c.pieces.sink in
    let bytes = ahead_of c.fill.new.self in
    let piece = c.as_slice-piece.result.now in
    let later = g.R.Source.remaining c.fill.new.source in
    let came = c.pieces.invariant.run.0 in
    let more = came ++ came_taken piece k c.read-taken.result ∷ [] in
    let rest = rest_after bytes later c.read-taken.result in
    let same = ap (λ x. (g.C.Closure.state x).meaning) c.pieces.invariant.same in
    let filled = served_kept c.pieces.session old m _ (prepend_known bytes later) sink came c.pieces.invariant.run.1 c.in_ok-fill.ensures.bytes in
    let read = served_read c.pieces.session c.read-taken.new.self old m k bytes piece later sink came c.read-taken.result c.as_slice-piece.ensures same filled
    c.read-taken.ensures.serves in
    let p = err_from_is_err_and c.from_residual-in_err-used.result c.from_residual-in_err-used.ensures.1 in
    rw (p.1, p.2)
    (record {
      session = c.give_due.new.session;
      came = more;
      rest = rest;
      run = served_gave c.read-taken.new.self c.give_due.new.session old m rest sink (g.W.Sink.contents c.give_due.new.sink) more read
          c.in_ok-give_due.ensures.gives;
      ends = inl (c.in_ok-give_due.ensures.found ∙ c.in_err-used.ensures.fault, c.in_ok-give_due.ensures.idle);
    })

pub pieces-preserved : goal.pieces-preserved
pieces-preserved g c =
    let m = (g.C.Closure.state c.args.closure.now).meaning in
    let k = (g.C.Closure.state c.pieces.closure).meaning in
    let old = session_state m (g.R.Source.remaining c.args.source.now) (g.W.Sink.contents c.args.sink.now) in
    let sink = g.W.Sink.contents c.pieces.sink in
    let bytes = ahead_of c.fill.new.self in
    let piece = c.as_slice-piece.result.now in
    let later = g.R.Source.remaining c.fill.new.source in
    let used = c.in_ok-used.used in
    let came = c.pieces.invariant.run.0 in
    let more = came ++ record { bytes = take used piece; held = k } ∷ [] in
    let then = g.W.Sink.contents c.give_due.new.sink in
    let same = ap (λ x. (g.C.Closure.state x).meaning) c.pieces.invariant.same in
    let filled = served_kept c.pieces.session old m _ (prepend_known bytes later) sink came c.pieces.invariant.run.1 c.in_ok-fill.ensures.bytes in
    let read = served_read c.pieces.session c.read-taken.new.self old m k bytes piece later sink came (Ok used) c.as_slice-piece.ensures same filled
    c.in_ok-used.ensures.serves in
    let gave = served_gave c.read-taken.new.self c.give_due.new.session old m (prepend_known (drop used bytes) later) sink then more read
    c.in_ok-give_due.ensures.gives in
    record {
      run = (
        more,
        subst (λ (l : List ℕ). HasServedRun old (session_state m (prepend_known l later) then) more c.give_due.new.session) (sym c.pass.ensures.bytes)
            gave,
        ap (λ n. c.pieces.lines + n) c.line_feeds-lines.ensures
            ∙ feeds_on came (record { bytes = take used piece; held = k }) c.pieces.lines c.pieces.invariant.run.2,
      );
      idle = c.in_ok-give_due.ensures.idle;
      same = c.read-taken.ensures.same ∙ c.pieces.invariant.same;
      room = subst (λ n. 0 < n) (sym (c.pass.ensures.room ∙ c.in_ok-fill.ensures.room)) c.pieces.invariant.room;
      below = let few = feeds_few (take used piece) in
          let count = c.line_feeds-lines.ensures in
          let taken = length-take used piece in
          let size = ap length c.pass.ensures.bytes in
          let left = length-drop used bytes in
          let same = ap length c.as_slice-piece.ensures in
          let within = c.in_ok-used.ensures.within in
          let spent = c.in_ok-fill.ensures.spends in
          let before = c.pieces.invariant.below in
          omega (arith, few, count, taken, size, left, same, within, spent, before);
      source = c.in_ok-fill.ensures.fault ∙ c.pieces.invariant.source;
      sink = c.in_ok-give_due.ensures.fault ∙ c.pieces.invariant.sink;
    }

pub returns-in_err-end-clause-serves : goal.returns-in_err-end-clause-serves
returns-in_err-end-clause-serves g c =
    let m = (g.C.Closure.state c.args.closure.now).meaning in
    let old = session_state m (g.R.Source.remaining c.args.source.now) (g.W.Sink.contents c.args.sink.now) in
    let sink = g.W.Sink.contents c.pieces.sink in
    let bytes = ahead_of c.fill.new.self in
    let later = g.R.Source.remaining c.fill.new.source in
    let came = c.pieces.invariant.run.0 in
    let run = served_kept c.pieces.session old m _ (prepend_known bytes later) sink came c.pieces.invariant.run.1 c.in_ok-fill.ensures.bytes in
    let none = c.in_ok-fill.ensures.none c.if-branch.false in
    let p = err_from_is_err_and c.from_residual-in_err-end.result c.from_residual-in_err-end.ensures.1 in
    rw (p.1, p.2)
    (record {
      session = c.pieces.session;
      came = came;
      rest = prepend_known bytes later;
      run = run;
      ends = elim (stops_at_end c.pieces.session m.config came run.written (prepend_known bytes later) _ run.serves c.pieces.invariant.idle
          (none_left bytes later none.0 none.1) c.in_err-end.ensures.refused) [
            | inl found ↦ inl found
            | inr cut ↦ inr (inl cut)
          ];
    })

pub overflow_sub-result : goal.overflow_sub-result
overflow_sub-result g c =
    let run = c.pieces.invariant.run.1 in
    let few = asked_came c.pieces.session (g.C.Closure.state c.args.closure.now).meaning.config c.pieces.invariant.run.0 run.written run.serves in
    let asked = c.question_size.ensures in
    let lines = c.pieces.invariant.run.2 in
    omega (arith, few, asked, lines)

pub returns-clause-serves : goal.returns-clause-serves
returns-clause-serves g c =
    let m = (g.C.Closure.state c.args.closure.now).meaning in
    let old = session_state m (g.R.Source.remaining c.args.source.now) (g.W.Sink.contents c.args.sink.now) in
    let sink = g.W.Sink.contents c.pieces.sink in
    let bytes = ahead_of c.fill.new.self in
    let later = g.R.Source.remaining c.fill.new.source in
    let came = c.pieces.invariant.run.0 in
    let run = served_kept c.pieces.session old m _ (prepend_known bytes later) sink came c.pieces.invariant.run.1 c.in_ok-fill.ensures.bytes in
    let none = c.in_ok-fill.ensures.none c.if-branch.false in
    record {
      session = c.pieces.session;
      came = came;
      rest = prepend_known bytes later;
      run = run;
      ends = record {
        sound = c.in_ok-end.ensures.whole.0;
        between = c.in_ok-end.ensures.whole.1;
        idle = c.pieces.invariant.idle;
        all = none_left bytes later none.0 none.1;
        number = let few = asked_came c.pieces.session m.config came run.written run.serves in
            let asked = c.question_size.ensures in
            let lines = c.pieces.invariant.run.2 in
            omega (arith, few, asked, lines);
      };
    }
