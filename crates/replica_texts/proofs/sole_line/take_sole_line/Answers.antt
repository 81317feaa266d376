use Rattle.std.proofs.Common.{List, ℕ, subst}
use Rattle.std.specs.Prelude.{MatchResult}
use Rattle.std.proofs.lemmas.Result.{MatchResult-weaker}
use Rattle.replica_texts.specs.declared.entry_line.Wanted.TheVariants.{Either}
use Rattle.replica_texts.specs.Inside.EntrySteps.{HasRefusedLine, TakesEntryText}
use Rattle.replica_texts.proofs.SoleLineFacts.{sole_refused, sole_taken}
use Rattle.replica_texts.proofs.sole_line.take_sole_line.Goals as goal

pub returns : goal.returns
returns g c =
    let old = (g.C.Closure.state c.args.closure.now).meaning in
    let new = (g.C.Closure.state c.take_line.new.closure).meaning in
    let text = c.args.text.now in
    MatchResult-weaker c.take_line.result
    (subst (λ (l : List ℕ). MatchResult c.take_line.result (TakesEntryText Either old l text new) (HasRefusedLine Either old l c.args.number text new))
    c.as_slice.ensures c.take_line.ensures)
    (sole_taken old text new) (sole_refused old c.args.number text new)
