use Rattle.std.proofs.Common.{◌≡◌, ◌∙◌, sym, subst, ◌++◌, take}
use Rattle.std.specs.Prelude.{None}
use Rattle.replica_sync.specs.Pieces.{kept_part}
use Rattle.bucket_sums.specs.Asking.{HasAnswerLines, TakesAnswer}
use Rattle.bucket_sums.proofs.QuestionFacts.{no_fault}
use Rattle.bucket_sums.proofs.AnswerFacts.{answer_more, answer_stops, answer_taken}
use Rattle.bucket_sums.proofs.sums_asking.SumsAsking.read.Goals as goal

pub returns-in-Ok-clause-takes : goal.returns-in-Ok-clause-takes
returns-in-Ok-clause-takes c came before =
    let self = c.args.self.now in
    let new = c.advance.new.self in
    let config = c.args.config.now in
    let clear : self.fault ≡ None = no_fault self.fault c.in_default.not-Some in
    let none : self.answer.marks ≡ None = c.is_waiting.ensures.0 c.if-not-is_waiting.false in
    let part = subst (λ f. TakesAnswer f config self.answer (kept_part self.part) came) clear before in
    let open_ = subst (λ m. HasAnswerLines m config self.answer.is_begun (kept_part self.part) came) none part in
    subst (λ f. TakesAnswer f config new.answer (kept_part new.part) (came ++ take c.in-Ok.used c.args.piece.now))
    (sym (c.in-Ok.ensures.fault ∙ clear))
    (answer_more config self new c.args.piece.now came c.in-Ok.used none c.in-Ok.ensures.ok open_)

pub returns-in-Err-clause-takes : goal.returns-in-Err-clause-takes
returns-in-Err-clause-takes c came before =
    let self = c.args.self.now in
    let config = c.args.config.now in
    let clear : self.fault ≡ None = no_fault self.fault c.in_default.not-Some in
    let none : self.answer.marks ≡ None = c.is_waiting.ensures.0 c.if-not-is_waiting.false in
    let part = subst (λ f. TakesAnswer f config self.answer (kept_part self.part) came) clear before in
    let open_ = subst (λ m. HasAnswerLines m config self.answer.is_begun (kept_part self.part) came) none part in
    answer_stops config self c.args.piece.now came c.in-Err.why c.in-Err.ensures.refused open_

pub returns-in-Ok-clause-taken : goal.returns-in-Ok-clause-taken
returns-in-Ok-clause-taken c =
    let new = c.advance.new.self in
    answer_taken c.args.config.now c.args.self.now new c.args.piece.now c.in-Ok.used (new.answer.marks ≡ None → ⊥) c.in-Ok.ensures.ok
