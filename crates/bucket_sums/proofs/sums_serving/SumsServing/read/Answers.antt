use Rattle.std.proofs.Common.{◌≡◌, ◌∙◌, sym, subst, ◌++◌, take}
use Rattle.std.specs.Prelude.{None}
use Rattle.replica_sync.specs.Pieces.{kept_part}
use Rattle.bucket_sums.specs.Serving.{HasAsked, TakesQuestion}
use Rattle.bucket_sums.proofs.QuestionFacts.{no_fault, part_more, part_stops, question_taken}
use Rattle.bucket_sums.proofs.sums_serving.SumsServing.read.Goals as goal

pub returns-in-Ok-clause-takes : goal.returns-in-Ok-clause-takes
returns-in-Ok-clause-takes c came before =
    let self = c.args.self.now in
    let new = c.advance.new.self in
    let config = c.args.config.now in
    let clear : self.fault ≡ None = no_fault self.fault c.in_default.not-Some in
    let part = subst (λ f. TakesQuestion f config self.question (kept_part self.part) came) clear before in
    subst (λ f. TakesQuestion f config new.question (kept_part new.part) (came ++ take c.in-Ok.used c.args.piece.now))
    (sym (c.in-Ok.ensures.fault ∙ clear))
    (part_more config self new c.args.piece.now came c.in-Ok.used c.has_asked.ensures.all
    (λ asked. let yes = c.has_asked.ensures.asked.1 asked in let no = c.if-has_asked.false in cc) c.in-Ok.ensures.ok part)

pub returns-in-Err-clause-takes : goal.returns-in-Err-clause-takes
returns-in-Err-clause-takes c came before =
    let self = c.args.self.now in
    let config = c.args.config.now in
    let clear : self.fault ≡ None = no_fault self.fault c.in_default.not-Some in
    let part = subst (λ f. TakesQuestion f config self.question (kept_part self.part) came) clear before in
    part_stops config self c.args.piece.now came c.in-Err.why c.has_asked.ensures.all c.in-Err.ensures.refused part

pub returns-in-Ok-clause-taken : goal.returns-in-Ok-clause-taken
returns-in-Ok-clause-taken c =
    question_taken c.args.config.now c.args.self.now c.advance.new.self c.args.piece.now c.in-Ok.used (HasAsked c.advance.new.self) c.in-Ok.ensures.ok
