use Rattle.serde_json.specs.View.{items_view}
use Rattle.bundle_doc.specs.Entries.{AreEntries}
use Rattle.bundle_doc.proofs.EntryFacts.{Gathers}
use Rattle.bundle_doc.proofs.elements.gather_taken.Given as goal

abbrev pub invariant-loop-element : goal.invariant-loop-element
invariant-loop-element l = record {
  entries : AreEntries l.found.entries;
  authorities : Gathers l.found.entries (items_view l.element-iterator.rest.items) (items_view l.fn.elements.items);
}
