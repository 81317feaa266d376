-- The first records were gone through.
use Rattle.std.proofs.Common.{◌≡◌}
use Rattle.fed_config.specs.Configuration.{HasDomain}
use Rattle.migration.specs.Carry.{ReportsRecord}
use Rattle.migration.specs.Inside.Carrying.{sink_run}
use Rattle.migration.proofs.CarryFacts.{SortedSoFar}
use Rattle.migration.proofs.carrying.carry_records.Given as goal

abbrev pub invariant-records : goal.invariant-records
invariant-records g l = record {
  sorted : SortedSoFar (λ x. HasDomain (g.C.Closure.state l.initial.closure).meaning.config x.domain)
      (ReportsRecord (g.C.Closure.state l.initial.closure).meaning.config) l.initial.domain-iterator l.domain-iterator
      (g.C.Closure.state l.closure).meaning.records
      (sink_run (g.E.Sink.contents l.initial.lines) (g.E.Sink.contents l.lines)) l.count;
  config : (g.C.Closure.state l.closure).meaning.config ≡ (g.C.Closure.state l.initial.closure).meaning.config;
  held : (g.C.Closure.state l.closure).meaning.held ≡ (g.C.Closure.state l.initial.closure).meaning.held;
  fault : g.E.Sink.has_failed l.lines ≡ g.E.Sink.has_failed l.initial.lines;
}
