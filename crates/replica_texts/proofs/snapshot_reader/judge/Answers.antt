use Rattle.std.proofs.Common.{◌≡◌, List, ℕ, ◌∙◌, ap, sym, subst}
use Rattle.receipt_core.specs.Order.{receipt_total, distrust_total}
use Rattle.replica_texts.specs.Inside.EntrySteps.{TakesEntryText}
use Rattle.replica_texts.specs.Snapshots.{wanted_of, held_lines, last_of, last_line}
use Rattle.replica_texts.specs.Inside.Reading.{IsFurther}
use Rattle.replica_texts.proofs.HeldFacts.{further, last_pushed}
use Rattle.replica_texts.proofs.snapshot_reader.judge.Goals as goal

pub returns-clause-judges : goal.returns-clause-judges
returns-clause-judges g c =
    let old = (g.C.Closure.state c.args.closure.now).meaning in
    let new = (g.C.Closure.state c.take_line.new.closure).meaning in
    let last : c.as_slice.result.now ≡ last_line old = c.as_slice.ensures.value ∙ c.requires.last in
    further receipt_total distrust_total c.lines.ensures.records c.lines.ensures.record_first c.args.format old new
    c.args.text.now c.in_ok-take_line.field-0 c.config-config.ensures.valid c.requires.fits
    (subst (λ (l : List ℕ). TakesEntryText (wanted_of c.args.format) old l c.args.text.now new c.in_ok-take_line.field-0) last
    (subst (λ w. TakesEntryText w old c.as_slice.result.now c.args.text.now new c.in_ok-take_line.field-0) c.wanted.ensures c.in_ok-take_line.ensures))

pub returns-clause-last : goal.returns-clause-last
returns-clause-last g c = λ more.
    let old = (g.C.Closure.state c.args.closure.now).meaning in
    let new = (g.C.Closure.state c.take_line.new.closure).meaning in
    let last : c.as_slice.result.now ≡ last_line old = c.as_slice.ensures.value ∙ c.requires.last in
    let joins : IsFurther c.args.format old c.args.text.now new =
    further receipt_total distrust_total c.lines.ensures.records c.lines.ensures.record_first c.args.format old new
    c.args.text.now c.in_ok-take_line.field-0 c.config-config.ensures.valid c.requires.fits
    (subst (λ (l : List ℕ). TakesEntryText (wanted_of c.args.format) old l c.args.text.now new c.in_ok-take_line.field-0) last
    (subst (λ w. TakesEntryText w old c.as_slice.result.now c.args.text.now new c.in_ok-take_line.field-0) c.wanted.ensures c.in_ok-take_line.ensures)) in
    c.in_ok-set_last.ensures ∙ sym (ap last_of joins.lines ∙ last_pushed (held_lines old) c.args.text.now)
