use Rattle.std.proofs.Common.{subst}
use Rattle.std.proofs.lemmas.Result.{err_from_is_err_and}
use Rattle.replica_sync.specs.Pieces.{EndsLine, ended_line, kept_part, piece_run}
use Rattle.bucket_sums.proofs.AnswerFacts.{answer_fails}
use Rattle.bucket_sums.proofs.sums_asking.SumsAsking.advance.Goals as goal

pub returns-in_err-take-in-Line-clause-refused : goal.returns-in_err-take-in-Line-clause-refused
returns-in_err-take-in-Line-clause-refused c =
    let old = kept_part c.args.self.now.part in
    let piece = c.args.piece.now in
    let used = c.in-Line.used in
    let text = ended_line c.take.new.self in
    let e = c.in_err-take-in-Line.field-0.0 in
    let takes = rw c.in-Line.is at c.in_ok-take.ensures.takes in
    let ends = subst (λ n. EndsLine (piece_run n old piece) used text) c.args.self.now.limit takes.0 in
    let why = rw c.line.ensures at c.in_err-take-in-Line.ensures.refused in
    let p = err_from_is_err_and c.from_residual-in_err-take-in-Line.result c.from_residual-in_err-take-in-Line.ensures.1 in
    rw (p.1, p.2) (answer_fails c.args.config.now c.args.self.now piece used text e ends why)
