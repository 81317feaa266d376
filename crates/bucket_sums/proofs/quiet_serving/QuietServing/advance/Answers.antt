use Rattle.std.proofs.Common.{◌∙◌, ◌++◌, ◌∷◌, ◌<◌, ◌+◌, ℕ, List, inl, inr, length, [], refl, sym, ap, subst, take, arith}
use Rattle.std.specs.Prelude.{IfOk, None, Ok, Some}
use Rattle.replica_core.specs.declared.error.SyncError.TheVariants.{NoMemory}
use Rattle.replica_texts.specs.SoleLines.{written_header}
use Rattle.replica_sync.specs.Pieces.{kept_part}
use Rattle.replica_sync.specs.AnsweredFrom.{answered_from}
use Rattle.replica_sync.specs.ServedPieces.{came_taken, due_give, records_answered}
use Rattle.bucket_sums.specs.RecordsOnce.{left_out_if}
use Rattle.bucket_sums.specs.Quiet.{ServesFrom, due_marks, fault_in, first_due}
use Rattle.bucket_sums.specs.Serving.{TakesToLine, marks_made}
use Rattle.bucket_sums.specs.Inside.QuietTurns.{turns_of}
use Rattle.bucket_sums.specs.declared.quiet_serving.Opening.TheVariants.{FirstLine, Question, Plain, Answered}
use Rattle.bucket_sums.proofs.QuietFacts.{asks_on, asks_stops}
use Rattle.bucket_sums.proofs.QuietStepFacts.{failed, opening_asks, opening_haves, opening_out, opening_stops, opening_within, plain_reads}
use Rattle.bucket_sums.proofs.QuietStepFacts.{answered_reads, answered_stops}
use Rattle.bucket_sums.proofs.QuietStepFacts.{question_ends, question_out, step_from}
use Rattle.bucket_sums.proofs.QuestionFacts.{line_feed}
use Rattle.bucket_sums.proofs.QuietStepFacts.{haves_taken, marks_due}
use Rattle.bucket_sums.proofs.QuietServeFacts.{haves_go, no_give, question_goes}
use Rattle.bucket_sums.proofs.quiet_serving.QuietServing.advance.Goals as goal

pub returns-in-Plain-clause-serves : goal.returns-in-Plain-clause-serves
returns-in-Plain-clause-serves g c config came written own h =
    let self = c.args.self.now in
    let m = (g.C.Closure.state c.args.closure.now).meaning in
    let piece = c.args.piece.now in
    let due = due_marks self in
    let then = c.read.new.self in
    let r = c.read.result in
    subst (λ o. ServesFrom o (fault_in r) config then due (came ++ came_taken piece m r ∷ []) written) (sym c.in-Plain.is)
    (plain_reads config self.haves then due m came piece r written c.read.ensures.serves c.read.ensures.records c.read.ensures.fault
    (subst (λ o. ServesFrom o None config self.haves due came written) c.in-Plain.is h))

pub returns-in_err-used-in-Answered-clause-serves : goal.returns-in_err-used-in-Answered-clause-serves
returns-in_err-used-in-Answered-clause-serves g c config came written own h =
    let self = c.args.self.now in
    let m = (g.C.Closure.state c.args.closure.now).meaning in
    let piece = c.args.piece.now in
    let due = due_marks self in
    let err = c.in_err-used-in-Answered in
    let e = err.field-0.0 in
    let then = c.read-in-Answered.new.self in
    let exit = c.from_residual in
    failed self.opening config then due m came piece written exit.result e exit.ensures.1
    (subst (λ o. ServesFrom o (Some e) config then due (came ++ record { bytes = piece; held = m } ∷ []) written) (sym c.in-Answered.is)
    (answered_stops config self.haves then due m came piece written e err.ensures.serves err.ensures.fault
    (subst (λ o. ServesFrom o None config self.haves due came written) c.in-Answered.is h)))

pub returns-in_ok-used-in-Answered-clause-serves : goal.returns-in_ok-used-in-Answered-clause-serves
returns-in_ok-used-in-Answered-clause-serves g c config came written own h =
    let self = c.args.self.now in
    let m = (g.C.Closure.state c.args.closure.now).meaning in
    let piece = c.args.piece.now in
    let due = due_marks self in
    let ok = c.in_ok-used-in-Answered in
    let used = ok.used in
    let then = c.read-in-Answered.new.self in
    let last = c.leave_out_if.new.haves in
    let left = c.leave_out_if.ensures in
    subst (λ o. ServesFrom o None config last due (came ++ record { bytes = take used piece; held = m } ∷ []) written) (sym c.in-Answered.is)
    (answered_reads config self.haves then last due m came piece used written ok.ensures.serves c.read-in-Answered.ensures.records ok.ensures.fault
    left.serves (left.records ∙ ap (λ b. left_out_if b (records_answered then)) c.has_line_feed.ensures) left.fault
    (subst (λ o. ServesFrom o None config self.haves due came written) c.in-Answered.is h))

pub returns-in_err-used-in-Question-clause-serves : goal.returns-in_err-used-in-Question-clause-serves
returns-in_err-used-in-Question-clause-serves g c config came written own h =
    let self = c.args.self.now in
    let m = (g.C.Closure.state c.args.closure.now).meaning in
    let k = c.config-config.result.now in
    let same = c.config-config.ensures.config ∙ own in
    let piece = c.args.piece.now in
    let due = due_marks self in
    let old = c.in-Question.question in
    let new = c.read_lines.new.self in
    let err = c.in_err-used-in-Question in
    let e = err.field-0.0 in
    let exit = c.from_residual-in_err-used-in-Question in
    failed (Question new) config self.haves due m came piece written exit.result e exit.ensures.1
    (step_from self.opening (Question old) k config self.haves due came written
    (λ d. ServesFrom (Question new) (Some e) d self.haves due (came ++ record { bytes = piece; held = m } ∷ []) written) c.in-Question.is same
    (λ asks. asks_stops k old new self.haves due m came piece written e err.ensures.takes err.ensures.fault asks) h)

pub returns-in_err-marks-in-Question-clause-serves : goal.returns-in_err-marks-in-Question-clause-serves
returns-in_err-marks-in-Question-clause-serves g c config came written own h =
    let self = c.args.self.now in
    let m = (g.C.Closure.state c.args.closure.now).meaning in
    let k = c.config-config.result.now in
    let same = c.config-config.ensures.config ∙ own in
    let piece = c.args.piece.now in
    let due = due_marks self in
    let old = c.in-Question.question in
    let new = c.read_lines.new.self in
    let exit = c.from_residual-in_err-marks-in-Question in
    failed (Question new) config self.haves due m came piece written exit.result NoMemory exit.ensures.1
    (step_from self.opening (Question old) k config self.haves due came written
    (λ d. ServesFrom (Question new) (Some NoMemory) d self.haves due (came ++ record { bytes = piece; held = m } ∷ []) written) c.in-Question.is same
    (λ asks. question_out k old self.haves due came (record { bytes = piece; held = m }) written NoMemory refl asks) h)

pub returns-in_ok-marks-in-Question-clause-serves : goal.returns-in_ok-marks-in-Question-clause-serves
returns-in_ok-marks-in-Question-clause-serves g c config came written own h =
    let self = c.args.self.now in
    let m = (g.C.Closure.state c.args.closure.now).meaning in
    let k = c.config-config.result.now in
    let same = c.config-config.ensures.config ∙ own in
    let piece = c.args.piece.now in
    let due = due_marks self in
    let old = c.in-Question.question in
    let new = c.read_lines.new.self in
    let read = c.in_ok-used-in-Question in
    let used = read.used in
    let marks = c.in_ok-marks-in-Question in
    let later = c.leave_out_if-then-has_asked.new.haves in
    let left = c.leave_out_if-then-has_asked.ensures in
    step_from self.opening (Question old) k config self.haves due came written
    (λ d. ServesFrom Answered None d later marks.marks.items (came ++ record { bytes = take used piece; held = m } ∷ []) written) c.in-Question.is same
    (λ asks. question_ends k old new self.haves later due marks.marks.items m came piece used written c.records_differ.result read.ensures.takes
    c.read_lines.ensures.own read.ensures.fault (c.has_asked.ensures.asked.0 c.if-has_asked.true) c.has_asked.ensures.all marks.ensures
    c.records_differ.ensures (left.serves [] []) left.records left.fault asks) h

pub returns-else-has_asked-clause-serves : goal.returns-else-has_asked-clause-serves
returns-else-has_asked-clause-serves g c config came written own h =
    let self = c.args.self.now in
    let m = (g.C.Closure.state c.args.closure.now).meaning in
    let k = c.config-config.result.now in
    let same = c.config-config.ensures.config ∙ own in
    let piece = c.args.piece.now in
    let due = due_marks self in
    let old = c.in-Question.question in
    let new = c.read_lines.new.self in
    let read = c.in_ok-used-in-Question in
    let used = read.used in
    step_from self.opening (Question old) k config self.haves due came written
    (λ d. ServesFrom (Question new) None d self.haves due (came ++ record { bytes = take used piece; held = m } ∷ []) written) c.in-Question.is same
    (λ asks. asks_on k old new self.haves due m came piece used written read.ensures.takes c.read_lines.ensures.own read.ensures.fault asks) h

pub returns-in_err-take_first_line-in-FirstLine-clause-serves : goal.returns-in_err-take_first_line-in-FirstLine-clause-serves
returns-in_err-take_first_line-in-FirstLine-clause-serves g c config came written own h =
    let self = c.args.self.now in
    let m = (g.C.Closure.state c.args.closure.now).meaning in
    let k = c.config-config.result.now in
    let same = c.config-config.ensures.config ∙ own in
    let piece = c.args.piece.now in
    let due = due_marks self in
    let part = c.in-FirstLine.part in
    let next = c.take_first_line.new.part in
    let err = c.in_err-take_first_line-in-FirstLine in
    let e = err.field-0.0 in
    let exit = c.from_residual-in_err-take_first_line-in-FirstLine in
    failed (FirstLine next) config self.haves due m came piece written exit.result e exit.ensures.1
    (step_from self.opening (FirstLine part) k config self.haves due came written
    (λ d. ServesFrom (FirstLine next) (Some e) d self.haves due (came ++ record { bytes = piece; held = m } ∷ []) written) c.in-FirstLine.is same
    (λ opens. opening_stops k part self.haves due m came piece written e err.ensures.refused opens) h)

pub returns-in-Within-clause-serves : goal.returns-in-Within-clause-serves
returns-in-Within-clause-serves g c config came written own h =
    let self = c.args.self.now in
    let m = (g.C.Closure.state c.args.closure.now).meaning in
    let k = c.config-config.result.now in
    let same = c.config-config.ensures.config ∙ own in
    let piece = c.args.piece.now in
    let due = due_marks self in
    let part = c.in-FirstLine.part in
    let next = c.take_first_line.new.part in
    let then = c.read-in-Within.new.self in
    let r = c.read-in-Within.result in
    let goes = rw c.in-Within.is at c.in_ok-take_first_line-in-FirstLine.ensures.ok in
    step_from self.opening (FirstLine part) k config self.haves due came written
    (λ d. ServesFrom (FirstLine next) (fault_in r) d then due (came ++ came_taken piece m r ∷ []) written) c.in-FirstLine.is same
    (λ opens. opening_within k part next self.haves then due m came piece r written goes c.read-in-Within.ensures.serves
    c.read-in-Within.ensures.whole c.read-in-Within.ensures.quiet c.read-in-Within.ensures.records c.read-in-Within.ensures.fault opens) h

pub returns-in_err-own-in-Sums-clause-serves : goal.returns-in_err-own-in-Sums-clause-serves
returns-in_err-own-in-Sums-clause-serves g c config came written own h =
    let self = c.args.self.now in
    let m = (g.C.Closure.state c.args.closure.now).meaning in
    let k = c.config-config.result.now in
    let same = c.config-config.ensures.config ∙ own in
    let piece = c.args.piece.now in
    let due = due_marks self in
    let part = c.in-FirstLine.part in
    let next = c.take_first_line.new.part in
    let exit = c.from_residual-in_err-own-in-Sums in
    failed (FirstLine next) config self.haves due m came piece written exit.result NoMemory exit.ensures.1
    (step_from self.opening (FirstLine part) k config self.haves due came written
    (λ d. ServesFrom (FirstLine next) (Some NoMemory) d self.haves due (came ++ record { bytes = piece; held = m } ∷ []) written) c.in-FirstLine.is same
    (λ opens. opening_out k part self.haves due came (record { bytes = piece; held = m }) written NoMemory refl opens) h)

pub returns-in_ok-own-in-Sums-clause-serves : goal.returns-in_ok-own-in-Sums-clause-serves
returns-in_ok-own-in-Sums-clause-serves g c config came written own h =
    let self = c.args.self.now in
    let m = (g.C.Closure.state c.args.closure.now).meaning in
    let k = c.config-config.result.now in
    let same = c.config-config.ensures.config ∙ own in
    let piece = c.args.piece.now in
    let due = due_marks self in
    let part = c.in-FirstLine.part in
    let next = c.take_first_line.new.part in
    let used = c.in-Sums.used in
    let question = c.after_first_line.result in
    let then = c.new.result in
    let ends = rw c.in-Sums.is at c.in_ok-take_first_line-in-FirstLine.ensures.ok in
    step_from self.opening (FirstLine part) k config self.haves due came written
    (λ d. ServesFrom (Question question) None d then due (came ++ record { bytes = take used piece; held = m } ∷ []) written) c.in-FirstLine.is same
    (λ opens. opening_asks k part question self.haves then due m came piece used written ends (c.after_first_line.ensures.begins k)
    (c.after_first_line.ensures.own ∙ c.in_ok-own-in-Sums.ensures.sums) c.after_first_line.ensures.sound c.new.ensures.begins c.new.ensures.sound
    c.new.ensures.idle c.new.ensures.records opens) h

pub returns-in-Haves-clause-serves : goal.returns-in-Haves-clause-serves
returns-in-Haves-clause-serves g c config came written own h =
    let self = c.args.self.now in
    let m = (g.C.Closure.state c.args.closure.now).meaning in
    let k = c.config-config.result.now in
    let same = c.config-config.ensures.config ∙ own in
    let piece = c.args.piece.now in
    let due = due_marks self in
    let part = c.in-FirstLine.part in
    let next = c.take_first_line.new.part in
    let then = c.read-in-Haves.new.self in
    let r = c.read-in-Haves.result in
    let plain = rw c.in-Haves.is at c.in_ok-take_first_line-in-FirstLine.ensures.ok in
    step_from self.opening (FirstLine part) k config self.haves due came written
    (λ d. ServesFrom Plain (fault_in r) d then due (came ++ came_taken piece m r ∷ []) written) c.in-FirstLine.is same
    (λ opens. opening_haves k part self.haves then due m came piece r written plain c.read-in-Haves.ensures.serves c.read-in-Haves.ensures.records
    c.read-in-Haves.ensures.fault opens) h

pub returns-in-Plain-clause-taken : goal.returns-in-Plain-clause-taken
returns-in-Plain-clause-taken g c =
    haves_taken (due_marks c.args.self.now) c.read.new.self c.args.piece.now c.read.result c.read.ensures.taken

pub returns-in_ok-used-in-Answered-clause-taken : goal.returns-in_ok-used-in-Answered-clause-taken
returns-in_ok-used-in-Answered-clause-taken g c =
    let ok = c.in_ok-used-in-Answered in
    let piece = c.args.piece.now in
    let due = due_marks c.args.self.now in
    subst (λ (l : List ℕ). TakesToLine (0 < length (first_due due l)) piece ok.used) (sym c.leave_out_if.ensures.due)
    (haves_taken due c.read-in-Answered.new.self piece (Ok ok.used) ok.ensures.taken)

pub returns-in_ok-marks-in-Question-clause-taken : goal.returns-in_ok-marks-in-Question-clause-taken
returns-in_ok-marks-in-Question-clause-taken g c =
    let marks = c.in_ok-marks-in-Question in
    λ less. inr (marks_due c.config-config.result.now (marks_made c.read_lines.new.self) marks.marks.items
    (due_give c.leave_out_if-then-has_asked.new.haves) marks.ensures)

pub returns-else-has_asked-clause-taken : goal.returns-else-has_asked-clause-taken
returns-else-has_asked-clause-taken g c =
    λ less. let yes = c.has_asked.ensures.asked.1 (c.in_ok-used-in-Question.ensures.taken less) in let no = c.if-has_asked.false in absurd (cc)

pub returns-in-Within-clause-taken : goal.returns-in-Within-clause-taken
returns-in-Within-clause-taken g c =
    haves_taken (due_marks c.args.self.now) c.read-in-Within.new.self c.args.piece.now c.read-in-Within.result c.read-in-Within.ensures.taken

pub returns-in_ok-own-in-Sums-clause-taken : goal.returns-in_ok-own-in-Sums-clause-taken
returns-in_ok-own-in-Sums-clause-taken g c =
    let ends = rw c.in-Sums.is at c.in_ok-take_first_line-in-FirstLine.ensures.ok in
    λ less. inl (line_feed (kept_part c.in-FirstLine.part) c.args.piece.now (written_header c.config-config.result.now) c.in-Sums.used ends)

pub returns-in-Haves-clause-taken : goal.returns-in-Haves-clause-taken
returns-in-Haves-clause-taken g c =
    haves_taken (due_marks c.args.self.now) c.read-in-Haves.new.self c.args.piece.now c.read-in-Haves.result c.read-in-Haves.ensures.taken

pub returns-in-Plain-clause-goes : goal.returns-in-Plain-clause-goes
returns-in-Plain-clause-goes g c some =
    let self = c.args.self.now in
    let turns = turns_of self.opening in
    haves_go self.haves c.read.new.self (answered_from (records_answered self.haves) (g.C.Closure.state c.args.closure.now).meaning) c.args.piece.now
    c.read.result turns turns (omega arith) c.read.ensures.step (no_give (due_marks self) (due_give self.haves) c.requires) some

pub returns-in_ok-used-in-Answered-clause-goes : goal.returns-in_ok-used-in-Answered-clause-goes
returns-in_ok-used-in-Answered-clause-goes g c some =
    let self = c.args.self.now in
    let turns = turns_of self.opening in
    let ok = c.in_ok-used-in-Answered in
    haves_go self.haves c.read-in-Answered.new.self (answered_from (records_answered self.haves) (g.C.Closure.state c.args.closure.now).meaning)
    c.args.piece.now (Ok ok.used) turns turns (omega arith) ok.ensures.step (no_give (due_marks self) (due_give self.haves) c.requires) some

pub returns-in_ok-marks-in-Question-clause-goes : goal.returns-in_ok-marks-in-Question-clause-goes
returns-in_ok-marks-in-Question-clause-goes g c some =
    let used = c.in_ok-used-in-Question.used in subst (λ o. 0 < turns_of o + used) (sym c.in-Question.is) (omega arith)

pub returns-else-has_asked-clause-goes : goal.returns-else-has_asked-clause-goes
returns-else-has_asked-clause-goes g c some =
    let used = c.in_ok-used-in-Question.used in
    subst (λ o. 1 < turns_of o + used) (sym c.in-Question.is)
    (question_goes used (length c.args.piece.now)
    (λ less. let yes = c.has_asked.ensures.asked.1 (c.in_ok-used-in-Question.ensures.taken less) in let no = c.if-has_asked.false in absurd (cc)) some)

pub returns-in-Within-clause-goes : goal.returns-in-Within-clause-goes
returns-in-Within-clause-goes g c some =
    let self = c.args.self.now in
    subst (λ o. IfOk c.read-in-Within.result (λ used. 2 < turns_of o + used)) (sym c.in-FirstLine.is)
    (haves_go self.haves c.read-in-Within.new.self (answered_from (records_answered self.haves) (g.C.Closure.state c.args.closure.now).meaning)
    c.args.piece.now c.read-in-Within.result 2 2 (omega arith) c.read-in-Within.ensures.step
    (no_give (due_marks self) (due_give self.haves) c.requires) some)

pub returns-in_ok-own-in-Sums-clause-goes : goal.returns-in_ok-own-in-Sums-clause-goes
returns-in_ok-own-in-Sums-clause-goes g c some =
    let used = c.in-Sums.used in subst (λ o. 1 < turns_of o + used) (sym c.in-FirstLine.is) (omega arith)

pub returns-in-Haves-clause-goes : goal.returns-in-Haves-clause-goes
returns-in-Haves-clause-goes g c some =
    let self = c.args.self.now in
    subst (λ o. IfOk c.read-in-Haves.result (λ used. 0 < turns_of o + used)) (sym c.in-FirstLine.is)
    (haves_go self.haves c.read-in-Haves.new.self (answered_from (records_answered self.haves) (g.C.Closure.state c.args.closure.now).meaning)
    c.args.piece.now c.read-in-Haves.result 2 0 (omega arith) c.read-in-Haves.ensures.step
    (no_give (due_marks self) (due_give self.haves) c.requires) some)
