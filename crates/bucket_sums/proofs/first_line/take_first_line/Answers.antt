use Rattle.std.proofs.Common.{subst}
use Rattle.replica_sync.specs.Pieces.{EndsLine, ended_line, kept_part, piece_run}
use Rattle.bucket_sums.proofs.QuietFacts.{plain_line}
use Rattle.bucket_sums.proofs.first_line.take_first_line.Goals as goal

pub returns-in-Err-BadHeader-clause-ok : goal.returns-in-Err-BadHeader-clause-ok
returns-in-Err-BadHeader-clause-ok c =
    let old = kept_part c.args.part.now in
    let piece = c.args.piece.now in
    let text = ended_line c.take.new.self in
    let takes = rw c.in-Line.is at c.in_ok-take.ensures.takes in
    let ends = subst (λ n. EndsLine (piece_run n old piece) c.in-Line.used text) c.requires takes.0 in
    let why = rw (c.in-Err-BadHeader.field-0-is, c.line.ensures) at c.in-Err-BadHeader.ensures in
    plain_line c.args.config.now old piece text c.in-Line.used ends why
