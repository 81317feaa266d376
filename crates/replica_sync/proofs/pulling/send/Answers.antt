use Rattle.std.proofs.Common.{◌≡◌, ◌∙◌, ap, length, subst, true, false}
use Rattle.std.proofs.lemmas.Result.{err_from_is_err_and}
use Rattle.byte_lines.specs.Device.{AppendsBeginning}
use Rattle.replica_sync.proofs.DrivenPulls.{driven_unsent}
use Rattle.replica_sync.proofs.pulling.send.Goals as goal

pub returns-in_err-write_all-clause-refused : goal.returns-in_err-write_all-clause-refused
returns-in_err-write_all-clause-refused g c =
    let machine = c.args.pulling.now in
    let old = g.W.Sink.contents c.args.sink.now in
    let new = g.W.Sink.contents c.write_all.new.sink in
    let p = err_from_is_err_and c.from_residual.result c.from_residual.ensures.1 in
    rw p.1 (λ start held source before left is.
    driven_unsent start held source before old new left machine
    (λ none. absurd (let no : false ≡ true = c.in_err-write_all.ensures.no_bytes (ap length (c.output.ensures ∙ none)) in cc))
    (subst (AppendsBeginning old new) c.output.ensures c.in_err-write_all.ensures.beginning) is)
