use Rattle.std.proofs.Common.{◌≡◌, get_or, sym, ◌∙◌}
use Rattle.std.proofs.lemmas.List.{get_or_default}
use Rattle.wait_index.specs.Inside.Tally.{tally_of}
use Rattle.wait_index.proofs.TouchFacts.{TouchesAll-more}
use Rattle.wait_index.proofs.marks.Marks.touch_all.Goals as goal

pub loop-label-preserved : goal.loop-label-preserved
loop-label-preserved c =
    let labels = c.args.labels.now in
    let i = c.loop-label.label-index in
    let at : c.index.result ≡ get_or labels i 0 =
    c.index.ensures ∙ c.label-item.is ∙ sym (get_or_default labels i 0 c.label-item.result c.loop-label-test.true)
    in (
      TouchesAll-more labels i c.index.result (tally_of c.args.self.now) (tally_of c.loop-label.self)
          (tally_of c.touch.new.self) c.loop-label-test.true at c.loop-label.invariant.0 c.touch.ensures.touched,
      c.touch.ensures.room ∙ c.loop-label.invariant.1,
    )
