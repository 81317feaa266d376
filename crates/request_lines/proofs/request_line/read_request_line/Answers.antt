use Rattle.std.proofs.lemmas.Result.{err_from_is_err_and}
use Rattle.request_lines.proofs.CountedFacts.{refuses_count}
use Rattle.request_lines.proofs.request_line.read_request_line.Goals as goal

pub returns-in_err-read_count : goal.returns-in_err-read_count
returns-in_err-read_count c =
    let exit = err_from_is_err_and c.from_residual.result c.from_residual.ensures.1 in
    rw (exit.1, exit.2) (refuses_count c.args.line.now
    c.in-Some.count.now c.in-Some.words.now _ c.if-line-gt-MOST_WORDS.false c.in-Some.ensures c.in_err-read_count.ensures)
