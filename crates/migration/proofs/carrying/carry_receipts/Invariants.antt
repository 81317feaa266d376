-- The first receipts were gone through.
use Rattle.std.proofs.Common.{◌≡◌}
use Rattle.receipt_core.specs.Acceptance.{IsFitting}
use Rattle.migration.specs.Carry.{ReportsReceipt}
use Rattle.migration.specs.Inside.Carrying.{sink_run}
use Rattle.migration.proofs.CarryFacts.{SortedSoFar}
use Rattle.migration.proofs.carrying.carry_receipts.Given as goal

abbrev pub invariant-receipts : goal.invariant-receipts
invariant-receipts g l = record {
  sorted : SortedSoFar (IsFitting (g.C.Closure.state l.initial.closure).meaning.config)
      (ReportsReceipt (g.C.Closure.state l.initial.closure).meaning.config) l.initial.receipt-iterator l.receipt-iterator
      (g.C.Closure.state l.closure).meaning.held
      (sink_run (g.E.Sink.contents l.initial.lines) (g.E.Sink.contents l.lines)) l.count;
  config : (g.C.Closure.state l.closure).meaning.config ≡ (g.C.Closure.state l.initial.closure).meaning.config;
  records : (g.C.Closure.state l.closure).meaning.records ≡ (g.C.Closure.state l.initial.closure).meaning.records;
  fault : g.E.Sink.has_failed l.lines ≡ g.E.Sink.has_failed l.initial.lines;
}
