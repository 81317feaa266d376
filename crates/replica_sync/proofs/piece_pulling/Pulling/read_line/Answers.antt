use Rattle.std.proofs.Common.{◌≡◌, ◌≤◌, ◌++◌, ◌∙◌, inl, List, ℕ, [], sym, ap, length, refl, take, vec_len, arith}
use Rattle.std.specs.Prelude.{◌==◌}
use Rattle.receipt_core.specs.Acceptance.{Meaning}
use Rattle.replica_sync.specs.PulledPieces.{PulledPiece}
use Rattle.replica_sync.specs.Plans.{answered_of}
use Rattle.replica_sync.specs.PullSessions.{count_of_pulling, due_have, kept_answer}
use Rattle.replica_sync.specs.Inside.AnswerSteps.{PullState}
use Rattle.replica_sync.specs.Inside.Waiting.{held_with}
use Rattle.replica_sync.specs.declared.piece_pulling.Pulling.{Pulling}
use Rattle.replica_sync.proofs.ServedPieceFacts.{empty_text, no_fault}
use Rattle.replica_sync.proofs.PullStepFacts.{below_last, over_idle, piece_at, pulled_nothing, pulled_still, read_finds, read_stopped, read_took}
use Rattle.replica_sync.proofs.PullStepFacts.{taken_more, taken_same}
use Rattle.replica_sync.proofs.PullStepFacts.{short_part, takes_some, takes_up_to_feed}
use Rattle.replica_sync.proofs.piece_pulling.Pulling.read_line.Goals as goal

-- what a call leaves that takes nothing
abbrev quiet_at : List ℕ → Meaning → PulledPiece
quiet_at bytes m = record { bytes = bytes; old = m; new = m }

-- the state of a machine
abbrev state_at : Meaning → Pulling → PullState
state_at m p = record { held = m; lines = p.lines; asked = p.plan; kept = kept_answer p }

pub returns-in-Some-clause-pulls : goal.returns-in-Some-clause-pulls
returns-in-Some-clause-pulls g c plan start came written own h =
    let self = c.args.self.now in
    let piece = quiet_at c.args.piece.now (held_with c.args.news.now (g.C.Closure.state c.args.closure.now).meaning) in
    record {
      plan_is = h.plan_is;
      pulls = pulled_still plan self.fault c.in-Some.why self.plan.answered self.lines start came (kept_answer self) (written ++ due_have self) piece
          c.in-Some.is refl h.pulls;
      taken = taken_same (count_of_pulling self) came piece h.taken refl;
      idle = h.idle;
      ended = h.ended;
    }

pub returns-then-is_over-clause-pulls : goal.returns-then-is_over-clause-pulls
returns-then-is_over-clause-pulls g c plan start came written own h =
    let self = c.args.self.now in
    let piece = quiet_at [] (held_with c.args.news.now (g.C.Closure.state c.args.closure.now).meaning) in
    record {
      plan_is = h.plan_is;
      pulls = pulled_nothing plan self.fault self.plan.answered self.lines start came (kept_answer self) (written ++ due_have self) piece
          (no_fault self.fault c.in_default.not-Some) refl refl h.pulls;
      taken = taken_same (count_of_pulling self) came piece h.taken refl;
      idle = h.idle;
      ended = h.ended;
    }

pub returns-then-not-is_empty-clause-pulls : goal.returns-then-not-is_empty-clause-pulls
returns-then-not-is_empty-clause-pulls g c plan start came written own h =
    let self = c.args.self.now in
    let piece = quiet_at [] (held_with c.args.news.now (g.C.Closure.state c.args.closure.now).meaning) in
    record {
      plan_is = h.plan_is;
      pulls = pulled_nothing plan self.fault self.plan.answered self.lines start came (kept_answer self) (written ++ due_have self) piece
          (no_fault self.fault c.in_default.not-Some) refl refl h.pulls;
      taken = taken_same (count_of_pulling self) came piece h.taken refl;
      idle = h.idle;
      ended = h.ended;
    }

pub returns-in-Ok-clause-pulls : goal.returns-in-Ok-clause-pulls
returns-in-Ok-clause-pulls g c plan start came written own h =
    let self = c.args.self.now in
    let then = c.advance.new.self in
    let old = state_at (held_with c.args.news.now (g.C.Closure.state c.args.closure.now).meaning) self in
    let new = state_at (held_with c.advance.new.news (g.C.Closure.state c.advance.new.closure).meaning) then in
    let sound = no_fault self.fault c.in_default.not-Some in
    let idle : due_have self ≡ [] =
    empty_text (due_have self) (ap (λ (l : List ℕ). length l == 0) (sym c.output.ensures) ∙ sym c.is_empty.ensures ∙ c.if-not-is_empty.false) in
    let more = below_last c.is_over.result self.lines.bucket c.is_over.ensures c.if-is_over.false self.lines.few in
    record {
      plan_is = c.in-Ok.ensures.plan ∙ h.plan_is;
      pulls = read_took plan self.fault then.fault start came old new c.args.piece.now c.in-Ok.used (due_have self) (due_have then) written h.plan_is sound
          c.in-Ok.ensures.fault idle more own c.in-Ok.ensures.ok h.pulls;
      taken = taken_more (count_of_pulling self) (count_of_pulling then) came (piece_at (take c.in-Ok.used c.args.piece.now) old new) h.taken
          c.in-Ok.ensures.taken;
      idle = λ stopped. absurd (stopped (c.in-Ok.ensures.fault ∙ sound));
      ended = λ over. over_idle old new c.args.piece.now c.in-Ok.used (due_have then) c.in-Ok.ensures.ok over;
    }

pub returns-in-Err-clause-pulls : goal.returns-in-Err-clause-pulls
returns-in-Err-clause-pulls g c plan start came written own h =
    let self = c.args.self.now in
    let then = c.advance.new.self in
    let old = state_at (held_with c.args.news.now (g.C.Closure.state c.args.closure.now).meaning) self in
    let new = state_at (held_with c.advance.new.news (g.C.Closure.state c.advance.new.closure).meaning) then in
    let sound = no_fault self.fault c.in_default.not-Some in
    let idle : due_have self ≡ [] =
    empty_text (due_have self) (ap (λ (l : List ℕ). length l == 0) (sym c.output.ensures) ∙ sym c.is_empty.ensures ∙ c.if-not-is_empty.false) in
    let more = below_last c.is_over.result self.lines.bucket c.is_over.ensures c.if-is_over.false self.lines.few in
    let few : vec_len self.part.line ≤ self.part.limit = self.part.within in
    let kept = short_part self.part.has_ended self.part.line.items self.part.limit self.limit (omega (arith, few, self.part.line.ok.0)) self.part.unbroken in
    record {
      plan_is = c.in-Err.ensures.plan ∙ h.plan_is;
      pulls = read_stopped plan start came (piece_at c.args.piece.now old new) (answered_of then.plan) then.lines (kept_answer then) (due_have then) written
          c.in-Err.why c.in-Err.ensures.quiet
          (read_finds plan self.fault c.in-Err.why start came old new c.args.piece.now (due_have self) written h.plan_is sound idle more own self.lines.some
          kept c.in-Err.ensures.refused h.pulls);
      taken = taken_more (count_of_pulling self) (count_of_pulling then) came (piece_at c.args.piece.now old new) h.taken c.in-Err.ensures.taken;
      idle = λ stopped. c.in-Err.ensures.quiet;
      ended = λ over. c.in-Err.ensures.quiet;
    }

pub returns-in-Err-clause-stops : goal.returns-in-Err-clause-stops
returns-in-Err-clause-stops g c sound plan start came written own h =
    let self = c.args.self.now in
    let then = c.advance.new.self in
    let old = state_at (held_with c.args.news.now (g.C.Closure.state c.args.closure.now).meaning) self in
    let new = state_at (held_with c.advance.new.news (g.C.Closure.state c.advance.new.closure).meaning) then in
    let idle : due_have self ≡ [] =
    empty_text (due_have self) (ap (λ (l : List ℕ). length l == 0) (sym c.output.ensures) ∙ sym c.is_empty.ensures ∙ c.if-not-is_empty.false) in
    let more = below_last c.is_over.result self.lines.bucket c.is_over.ensures c.if-is_over.false self.lines.few in
    let few : vec_len self.part.line ≤ self.part.limit = self.part.within in
    let kept = short_part self.part.has_ended self.part.line.items self.part.limit self.limit (omega (arith, few, self.part.line.ok.0)) self.part.unbroken in
    read_finds plan self.fault c.in-Err.why start came old new c.args.piece.now (due_have self) written h.plan_is sound idle more own self.lines.some
    kept c.in-Err.ensures.refused h.pulls

pub returns-in-Ok-clause-taken : goal.returns-in-Ok-clause-taken
returns-in-Ok-clause-taken g c =
    let self = c.args.self.now in
    let then = c.advance.new.self in
    let old = state_at (held_with c.args.news.now (g.C.Closure.state c.args.closure.now).meaning) self in
    let new = state_at (held_with c.advance.new.news (g.C.Closure.state c.advance.new.closure).meaning) then in
    let up_to = takes_up_to_feed old new c.args.piece.now (due_have then) c.in-Ok.used c.in-Ok.ensures.ok in
    record { within = up_to.within; fewer = λ few. inl (up_to.fewer few) }

pub returns-in-Ok-clause-moves : goal.returns-in-Ok-clause-moves
returns-in-Ok-clause-moves g c idle more some =
    let self = c.args.self.now in
    let then = c.advance.new.self in
    let old = state_at (held_with c.args.news.now (g.C.Closure.state c.args.closure.now).meaning) self in
    let new = state_at (held_with c.advance.new.news (g.C.Closure.state c.advance.new.closure).meaning) then in
    takes_some old new c.args.piece.now (due_have then) c.in-Ok.used c.in-Ok.ensures.ok some
