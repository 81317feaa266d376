use Rattle.std.proofs.lemmas.Result.{err_from_is_err_and}
use Rattle.replica_texts.proofs.HaveReadingFacts.{refused-line}
use Rattle.replica_texts.proofs.have_reader.next_have_line.Goals as goal

pub returns-in_err-versioned_have-in-Text-clause-refused : goal.returns-in_err-versioned_have-in-Text-clause-refused
returns-in_err-versioned_have-in-Text-clause-refused g c =
    let taken = rw (c.in_ok-text.was, c.in-Text.is) at c.next_line.follows.holds-at-none in
    let p = err_from_is_err_and c.from_residual-in_err-versioned_have-in-Text.result c.from_residual-in_err-versioned_have-in-Text.ensures.1 in
    rw (p.1, p.2) (refused-line _ _ c.in-Text.text.now _ taken.finds.0 taken.finds.1 c.in_err-versioned_have-in-Text.ensures)
