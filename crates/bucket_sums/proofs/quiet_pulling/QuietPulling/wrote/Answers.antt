use Rattle.std.proofs.Common.{◌≡◌, ◌+◌, ◌<◌, ◌≤◌, [], length, arith}
use Rattle.std.specs.Prelude.{vec_len}
use Rattle.bucket_sums.specs.QuietPulls.{due_of_stage, due_question}
use Rattle.bucket_sums.proofs.QuietStepFacts.{none_left_of, within_text}
use Rattle.bucket_sums.proofs.QuietPullFacts.{pulling_wrote, question_wrote}
use Rattle.bucket_sums.proofs.quiet_pulling.QuietPulling.wrote.Goals as goal

pub invariant_of-self : goal.invariant_of-self
invariant_of-self c =
    let self = c.args.self.now in
    let less : self.written < length self.question.items = omega (arith, self.question.ok.0) in
    let most = within_text self.question.items (due_of_stage self.stage) self.written c.args.count less c.requires in
    let inside : self.written + c.args.count ≤ vec_len self.question = omega (arith, most, self.question.ok.0) in
    record { inside = inside }

pub returns-then-self-len : goal.returns-then-self-len
returns-then-self-len c =
    let self = c.args.self.now in
    let less : self.written < length self.question.items = omega (arith, self.question.ok.0) in
    record {
      pulls = λ start came written h.
          question_wrote self.stage self.fault self.question.items self.written c.args.count start came written less h;
    }

pub returns-in-Pulling : goal.returns-in-Pulling
returns-in-Pulling c =
    let self = c.args.self.now in
    let none : due_question self ≡ [] = none_left_of self.question.items self.written (omega (arith, self.question.ok.0)) in
    record {
      pulls = λ start came written h.
          pulling_wrote self.stage c.in-Pulling.pulling c.wrote.new.self self.fault (due_question self) start came written c.args.count
          c.in-Pulling.is none c.wrote.ensures.pulls c.wrote.ensures.fault h;
    }
