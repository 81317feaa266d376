use Rattle.std.proofs.Common.{◌++◌, subst}
use Rattle.std.proofs.lemmas.Result.{err_from_is_err_and}
use Rattle.replica_sync.specs.Pieces.{EndsLine, IsOverlong, ended_line, kept_part, piece_run}
use Rattle.replica_sync.specs.AnsweredFrom.{answered_from}
use Rattle.replica_sync.proofs.ServedPieceFacts.{ended_refused, overlong_refused}
use Rattle.replica_sync.proofs.piece_serving.Serving.advance.Goals as goal

pub returns-in-TooLong-clause-refused : goal.returns-in-TooLong-clause-refused
returns-in-TooLong-clause-refused g c =
    let takes = rw c.in-TooLong.is at c.in_ok-take.ensures.takes in
    overlong_refused (answered_from c.args.self.now.records (g.C.Closure.state c.args.closure.now).meaning) (kept_part c.args.self.now.part) c.args.piece.now
    (subst (λ n. IsOverlong n (kept_part c.args.self.now.part ++ c.args.piece.now)) c.args.self.now.limit takes.0)

pub returns-in_err-answer-in-Line-clause-refused : goal.returns-in_err-answer-in-Line-clause-refused
returns-in_err-answer-in-Line-clause-refused g c =
    let m = answered_from c.args.self.now.records (g.C.Closure.state c.args.closure.now).meaning in
    let old = kept_part c.args.self.now.part in
    let piece = c.args.piece.now in
    let used = c.in-Line.used in
    let text = ended_line c.take.new.self in
    let e = c.in_err-answer-in-Line.field-0.0 in
    let takes = rw c.in-Line.is at c.in_ok-take.ensures.takes in
    let ends = subst (λ n. EndsLine (piece_run n old piece) used text) c.args.self.now.limit takes.0 in
    let why = rw c.line.ensures at c.in_err-answer-in-Line.ensures.refused in
    let p = err_from_is_err_and c.from_residual-in_err-answer-in-Line.result c.from_residual-in_err-answer-in-Line.ensures.1 in
    rw (p.1, p.2) (ended_refused m old piece used text e ends why)
