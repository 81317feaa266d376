use Rattle.replica_core.specs.Session.{state_of}
use Rattle.bucket_sums.proofs.BothSidesFacts.{compared_marks}
use Rattle.bucket_sums.proofs.CourseFacts.{marked_course, receipts_sent}
use Rattle.bucket_sums.proofs.laws.world_of_sums.Goals as goal

pub returns-clause-course : goal.returns-clause-course
returns-clause-course c p m config came asked written said rest left more differ rules start peers events comparison same marked question is said_is sums own
    theirs place asks =
    marked_course rules start comparison marked.marks (state_of m) (state_of question.held) sums
    (compared_marks p m config came asked written said rest left more differ same marked question is said_is).are own theirs asks place

pub returns-clause-receipts : goal.returns-clause-receipts
returns-clause-receipts c = receipts_sent
