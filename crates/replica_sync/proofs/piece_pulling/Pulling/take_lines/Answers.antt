use Rattle.std.proofs.Common.{◌∙◌, length, length-drop, ap, subst, arith}
use Rattle.std.proofs.lemmas.List.{take_rest}
use Rattle.replica_core.specs.declared.error.SyncError.{SyncError}
use Rattle.replica_sync.specs.PullSessions.{StopsNow}
use Rattle.replica_sync.specs.Inside.Waiting.{held_with}
use Rattle.replica_sync.proofs.PullLinesFacts.{config_then, journals_more, pulls_on, pulls_stop, rest_of}
use Rattle.replica_sync.proofs.piece_pulling.Pulling.take_lines.Goals as goal

pub returns-then-more-eq0-clause-pulls : goal.returns-then-more-eq0-clause-pulls
returns-then-more-eq0-clause-pulls g c =
    pulls_on _ _ _ _ _ _ c.args.piece.now c.lines.used c.in-Ok.more c.lines.invariant.within c.lines.invariant.pulls
    (config_then _ _ _ _ c.lines.invariant.journals) c.lines.invariant.calm c.in-Ok.ensures.fault
    (λ plan start came written own h. c.in-Ok.ensures.pulls plan start came written own h)

pub returns-then-more-eq0-clause-journals : goal.returns-then-more-eq0-clause-journals
returns-then-more-eq0-clause-journals g c = journals_more _ _ _ _ _ _ c.lines.invariant.journals c.in-Ok.ensures.journals

pub lines-preserved : goal.lines-preserved
lines-preserved g c =
    let few = c.lines.invariant.within in
    let more = c.in-Ok.ensures.taken.within in
    let left = ap length (take_rest c.args.piece.now c.lines.used) ∙ length-drop c.lines.used c.args.piece.now in
    record {
      pulls = pulls_on _ _ _ _ _ _ c.args.piece.now c.lines.used c.in-Ok.more few c.lines.invariant.pulls
          (config_then _ _ _ _ c.lines.invariant.journals) c.lines.invariant.calm c.in-Ok.ensures.fault
          (λ plan start came written own h. c.in-Ok.ensures.pulls plan start came written own h);
      journals = journals_more _ _ _ _ _ _ c.lines.invariant.journals c.in-Ok.ensures.journals;
      waits = c.in-Ok.ensures.waiting;
      within = omega (arith, few, more, left);
      calm = λ sound. c.in-Ok.ensures.fault;
      first = λ none. absurd (let some = c.if-more-eq0.false in omega (arith, none, some));
    }

pub returns-in-Err-clause-pulls : goal.returns-in-Err-clause-pulls
returns-in-Err-clause-pulls g c =
    let mid = held_with c.lines.news (g.C.Closure.state c.lines.closure).meaning in
    let new = held_with c.read_line.new.news (g.C.Closure.state c.read_line.new.closure).meaning in
    pulls_stop _ _ _ _ _ _ c.args.piece.now c.lines.used c.lines.invariant.pulls
    (config_then _ _ _ _ c.lines.invariant.journals) c.lines.invariant.calm
    (λ plan start came written own h. c.in-Err.ensures.pulls plan start came written own h)
    (λ e sound stopped plan start came written own h.
    subst (λ (d : SyncError). StopsNow plan start came (record { bytes = rest_of c.args.piece.now c.lines.used; old = mid; new = new }) written d)
    (let f = c.in-Err.ensures.fault in cc)
    (c.in-Err.ensures.stops sound plan start came written own h))

pub returns-in-Err-clause-journals : goal.returns-in-Err-clause-journals
returns-in-Err-clause-journals g c = journals_more _ _ _ _ _ _ c.lines.invariant.journals c.in-Err.ensures.journals
