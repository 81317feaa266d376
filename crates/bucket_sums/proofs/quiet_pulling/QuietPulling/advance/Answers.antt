use Rattle.std.proofs.Common.{◌≡◌, ◌≢◌, ◌∙◌, inl, inr, refl, sym, take, arith, []}
use Rattle.std.specs.Prelude.{None, Some}
use Rattle.replica_core.specs.declared.error.SyncError.TheVariants.{NoMemory}
use Rattle.replica_sync.proofs.PullLinesFacts.{journals_none}
use Rattle.bucket_sums.specs.QuietPulls.{due_question}
use Rattle.bucket_sums.specs.declared.quiet_pulling.Stage.TheVariants.{Asking, Pulling as PullsNow}
use Rattle.bucket_sums.proofs.QuietStepFacts.{none_left_of, not_some, question_due}
use Rattle.bucket_sums.proofs.QuietPullFacts.{begun_taken, pulling_taken}
use Rattle.bucket_sums.proofs.QuietPullFacts.{failed_step, haves_begin, lines_step, marks_fail, marks_on, marks_stop, stage_step, waits_step}
use Rattle.bucket_sums.proofs.quiet_pulling.QuietPulling.advance.Goals as goal

pub returns-in-Pulling-clause-pulls : goal.returns-in-Pulling-clause-pulls
returns-in-Pulling-clause-pulls g c =
    lines_step c.args.self.now _ c.in-Pulling.pulling c.read_lines.new.self _ c.read_lines.result c.in-Pulling.is refl refl
    c.read_lines.ensures.pulls c.read_lines.ensures.fault

pub returns-then-not-is_asked-clause-pulls : goal.returns-then-not-is_asked-clause-pulls
returns-then-not-is_asked-clause-pulls g c =
    waits_step c.args.self.now _ (g.C.Closure.state c.args.closure.now).meaning (sym c.in-Asking.is) refl

pub returns-in_err-used-in-Asking-clause-pulls : goal.returns-in_err-used-in-Asking-clause-pulls
returns-in_err-used-in-Asking-clause-pulls g c =
    let self = c.args.self.now in
    let m = (g.C.Closure.state c.args.closure.now).meaning in
    let piece = c.args.piece.now in
    let old = c.in-Asking.asking in
    let new = c.read.new.self in
    let e = c.in_err-used-in-Asking.field-0.0 in
    let failed = c.in_err-used-in-Asking.ensures in
    failed_step self _ piece m c.from_residual.result e c.from_residual.ensures.1
    (stage_step self _ (Asking old) (Asking new) piece m (Some e) c.in-Asking.is refl refl
    (λ start came written own h. marks_stop c.config.result.now old new (due_question self) m start came piece written e failed.takes
    (c.config.ensures.config ∙ own) failed.fault h))

pub returns-in_err-buckets-in-Asking-clause-pulls : goal.returns-in_err-buckets-in-Asking-clause-pulls
returns-in_err-buckets-in-Asking-clause-pulls g c =
    let self = c.args.self.now in
    let m = (g.C.Closure.state c.args.closure.now).meaning in
    let piece = c.args.piece.now in
    let old = c.in-Asking.asking in
    let new = c.read.new.self in
    let exit = c.from_residual-in_err-buckets-in-Asking in
    failed_step self _ piece m exit.result NoMemory exit.ensures.1
    (stage_step self _ (Asking old) (Asking new) piece m (Some NoMemory) c.in-Asking.is refl refl
    (λ start came written own h. marks_fail old (due_question self) m start came piece written NoMemory refl h))

pub returns-in_err-pulling-in-Asking-clause-pulls : goal.returns-in_err-pulling-in-Asking-clause-pulls
returns-in_err-pulling-in-Asking-clause-pulls g c =
    let self = c.args.self.now in
    let m = (g.C.Closure.state c.args.closure.now).meaning in
    let piece = c.args.piece.now in
    let old = c.in-Asking.asking in
    let new = c.read.new.self in
    let e = c.in_err-pulling-in-Asking.field-0.0 in
    let exit = c.from_residual-in_err-pulling-in-Asking in
    failed_step self _ piece m exit.result e exit.ensures.1
    (stage_step self _ (Asking old) (Asking new) piece m (Some e) c.in-Asking.is refl refl
    (λ start came written own h. marks_fail old (due_question self) m start came piece written e c.in_err-pulling-in-Asking.ensures.refused h))

pub returns-in_ok-pulling-in-Asking-clause-pulls : goal.returns-in_ok-pulling-in-Asking-clause-pulls
returns-in_ok-pulling-in-Asking-clause-pulls g c =
    let self = c.args.self.now in
    let m = (g.C.Closure.state c.args.closure.now).meaning in
    let read = c.in_ok-used-in-Asking in
    let bytes = take read.used c.args.piece.now in
    let old = c.in-Asking.asking in
    let new = c.read.new.self in
    let buckets = c.in_ok-buckets-in-Asking in
    let begun = c.in_ok-pulling-in-Asking in
    let all : self.written ≡ c.len.result = c.if-not-is_asked.false in
    let idle : due_question self ≡ [] = none_left_of self.question.items self.written (omega (arith, all, self.question.ok.0)) in
    stage_step self _ (Asking old) (PullsNow begun.pulling) bytes m None c.in-Asking.is refl refl
    (λ start came written own h. haves_begin c.config.result.now old new begun.pulling (due_question self) m start came bytes written
    c.in-Some.marks.now buckets.buckets.items read.ensures.takes c.config.ensures.config read.ensures.fault c.in-Some.ensures buckets.ensures idle
    begun.ensures.ok own h)

pub returns-in_default-clause-pulls : goal.returns-in_default-clause-pulls
returns-in_default-clause-pulls g c =
    let self = c.args.self.now in
    let m = (g.C.Closure.state c.args.closure.now).meaning in
    let read = c.in_ok-used-in-Asking in
    let bytes = take read.used c.args.piece.now in
    let old = c.in-Asking.asking in
    let new = c.read.new.self in
    stage_step self _ (Asking old) (Asking new) bytes m None c.in-Asking.is refl refl
    (λ start came written own h. marks_on c.config.result.now old new (due_question self) m start came bytes written read.ensures.takes
    (c.config.ensures.config ∙ own) read.ensures.fault (not_some c.marks.result _ _ c.marks.ensures c.in_default.not-Some) h)

pub returns-then-not-is_asked-clause-journals : goal.returns-then-not-is_asked-clause-journals
returns-then-not-is_asked-clause-journals g c = journals_none _ _

pub returns-in_err-used-in-Asking-clause-journals : goal.returns-in_err-used-in-Asking-clause-journals
returns-in_err-used-in-Asking-clause-journals g c = journals_none _ _

pub returns-in_err-buckets-in-Asking-clause-journals : goal.returns-in_err-buckets-in-Asking-clause-journals
returns-in_err-buckets-in-Asking-clause-journals g c = journals_none _ _

pub returns-in_err-pulling-in-Asking-clause-journals : goal.returns-in_err-pulling-in-Asking-clause-journals
returns-in_err-pulling-in-Asking-clause-journals g c = journals_none _ _

pub returns-in_ok-pulling-in-Asking-clause-journals : goal.returns-in_ok-pulling-in-Asking-clause-journals
returns-in_ok-pulling-in-Asking-clause-journals g c = journals_none _ _

pub returns-in_default-clause-journals : goal.returns-in_default-clause-journals
returns-in_default-clause-journals g c = journals_none _ _

pub returns-in-Pulling-clause-taken : goal.returns-in-Pulling-clause-taken
returns-in-Pulling-clause-taken g c =
    pulling_taken (due_question c.args.self.now) c.read_lines.new.self c.args.piece.now c.read_lines.result c.read_lines.ensures.taken

pub returns-then-not-is_asked-clause-taken : goal.returns-then-not-is_asked-clause-taken
returns-then-not-is_asked-clause-taken g c =
    let self = c.args.self.now in
    let some : self.written ≢ c.len.result = c.if-not-is_asked.true in
    λ less. inr (inl (question_due self.question.items [] self.written (omega (arith, some, self.question.ok.0))))

pub returns-in_ok-pulling-in-Asking-clause-taken : goal.returns-in_ok-pulling-in-Asking-clause-taken
returns-in_ok-pulling-in-Asking-clause-taken g c =
    let self = c.args.self.now in
    let begun = c.in_ok-pulling-in-Asking in
    begun_taken (Some c.in_ok-buckets-in-Asking.buckets.items) (due_question self) begun.pulling (g.C.Closure.state c.args.closure.now).meaning
    c.args.piece.now c.in_ok-used-in-Asking.used begun.ensures.ok

pub returns-in_default-clause-taken : goal.returns-in_default-clause-taken
returns-in_default-clause-taken g c =
    let read = c.in_ok-used-in-Asking in
    λ less. elim (read.ensures.taken less) [
      | inl feed ↦ inl feed
      | inr ended ↦ absurd (ended (not_some c.marks.result _ _ c.marks.ensures c.in_default.not-Some))
    ]
