use Rattle.std.proofs.Common.{sym}
use Rattle.serde_json.specs.View.{items_view}
use Rattle.bundle_doc.proofs.EntryFacts.{Gathers-init, Gathers-next, Gathers-end}
use Rattle.bundle_doc.proofs.elements.gather.Goals as goal

pub loop-element-init : goal.loop-element-init
loop-element-init c =
    let both = Gathers-init c.new-found.result.entries (items_view c.args.elements.now) c.new-found.ensures.empty in
    record { entries = both.0; authorities = both.1 }

pub loop-element-preserved : goal.loop-element-preserved
loop-element-preserved c = record {
  entries = c.in_ok-add_element.ensures.entries c.loop-element.invariant.entries;
  authorities = Gathers-next c.loop-element.found.entries c.add_element.new.found.entries c.args.elements.now
      c.loop-element.element-index c.element-item.result (items_view c.args.elements.now) c.loop-element-test.true
      (sym c.element-item.is) c.loop-element.invariant.entries c.in_ok-add_element.ensures
      c.loop-element.invariant.authorities;
}

pub returns : goal.returns
returns c = record {
  entries = c.loop-element.invariant.entries;
  authorities = Gathers-end c.loop-element.found.entries c.args.elements.now c.loop-element.element-index
      (items_view c.args.elements.now) c.loop-element-test.false c.loop-element.invariant.authorities;
}
