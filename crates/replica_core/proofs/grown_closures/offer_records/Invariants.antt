use Rattle.std.proofs.Common.{◌≡◌, [], take}
use Rattle.replica_core.specs.Inside.ReplicasInMemory.{CanHoldRecords}
use Rattle.replica_core.proofs.grown_closures.offer_records.Given as goal

abbrev pub invariant-loop-record : goal.invariant-loop-record
invariant-loop-record g l =
    (g.C.Closure.state l.initial.closure).meaning.records ≡ [] → CanHoldRecords (g.C.Closure.state l.initial.closure).meaning.config l.records
    → (g.C.Closure.state l.closure).meaning ≡ record (g.C.Closure.state l.initial.closure).meaning { records = take l.record-index l.records }
