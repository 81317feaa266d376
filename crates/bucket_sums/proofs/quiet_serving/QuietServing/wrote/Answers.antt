use Rattle.std.proofs.Common.{◌≡◌, ◌<◌, [], length, refl, arith}
use Rattle.replica_sync.specs.ServedPieces.{due_give}
use Rattle.bucket_sums.specs.Quiet.{due_marks}
use Rattle.bucket_sums.proofs.QuietServeFacts.{haves_owed, marks_owed}
use Rattle.bucket_sums.proofs.QuietStepFacts.{haves_written, marks_written, none_left_of, within_text}
use Rattle.bucket_sums.proofs.quiet_serving.QuietServing.wrote.Goals as goal

pub returns-then-self-len : goal.returns-then-self-len
returns-then-self-len c =
    let self = c.args.self.now in
    let less : self.written < length self.marks.items = omega (arith, self.marks.ok.0) in
    record {
      serves = λ config came written h.
          marks_written self.opening self.fault config self.haves self.marks.items self.written c.args.count came written less h;
      owed = marks_owed self.marks.items (due_give self.haves) self.written c.args.count less
          (within_text self.marks.items (due_give self.haves) self.written c.args.count less c.requires);
      turns = refl;
      fault = refl;
    }

pub returns-else-self-len : goal.returns-else-self-len
returns-else-self-len c =
    let self = c.args.self.now in
    let none : due_marks self ≡ [] = none_left_of self.marks.items self.written (omega (arith, self.marks.ok.0)) in
    record {
      serves = λ config came written h.
          haves_written self.opening self.fault config self.haves c.wrote.new.self (due_marks self) came written c.args.count none
          c.wrote.ensures.serves c.wrote.ensures.fault c.wrote.ensures.records c.wrote.ensures.due h;
      owed = haves_owed (due_marks self) (due_give self.haves) (due_give c.wrote.new.self) c.args.count none c.requires c.wrote.ensures.due;
      turns = refl;
      fault = refl;
    }
