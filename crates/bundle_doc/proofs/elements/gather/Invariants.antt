use Rattle.std.proofs.Common.{drop}
use Rattle.serde_json.specs.View.{items_view}
use Rattle.bundle_doc.specs.Entries.{AreEntries}
use Rattle.bundle_doc.proofs.EntryFacts.{Gathers}
use Rattle.bundle_doc.proofs.elements.gather.Given as goal

abbrev pub invariant-loop-element : goal.invariant-loop-element
invariant-loop-element l = record {
  entries : AreEntries l.found.entries;
  authorities : Gathers l.found.entries (items_view (drop l.element-index l.elements)) (items_view l.elements);
}
