use Rattle.std.proofs.Common.{[]}
use Rattle.replica_sync.specs.ServedPieces.{due_give, kept_have}
use Rattle.replica_sync.proofs.ServeLawFacts.{answered_each}
use Rattle.bucket_sums.specs.RecordsOnce.{shown_once}
use Rattle.bucket_sums.proofs.BothSidesFacts.{answered_marks, both_joined, compared_marks}
use Rattle.bucket_sums.proofs.ChangingFacts.{session_brings}
use Rattle.bucket_sums.proofs.laws.both_sides.Goals as goal

pub returns-clause-compared : goal.returns-clause-compared
returns-clause-compared c p m config came asked written said rest left more differ same marked question is said_is =
    (compared_marks p m config came asked written said rest left more differ same marked question is said_is).are

pub returns-clause-marks : goal.returns-clause-marks
returns-clause-marks c p m k config came asked written said rest left more differ same marked question still is said_is =
    (answered_marks p m k config came asked written said rest left more differ same marked question still is said_is).are

pub returns-clause-brings : goal.returns-clause-brings
returns-clause-brings c p s m held config came asked later written said replied left differ bucket same marked only each sound over idle question no_less sums
    serves ready kept_none none is said_is =
    session_brings p m held config came asked later written said replied left differ bucket same marked only each sound over idle question no_less sums
    (answered_each s.fault (shown_once differ [] later) (kept_have s) replied (due_give s) ready kept_none none serves) is said_is

pub returns-clause-joins : goal.returns-clause-joins
returns-clause-joins c p s m k held came asked later written said replied left differ valid other kept same sums ids marked alone sound over idle question
    still still_later serves ready kept_none none is said_is =
    both_joined p m k held came asked later written said replied left differ valid other kept same sums ids marked alone sound over idle question still
    still_later
    (answered_each s.fault (shown_once differ [] later) (kept_have s) replied (due_give s) ready kept_none none serves) is said_is
