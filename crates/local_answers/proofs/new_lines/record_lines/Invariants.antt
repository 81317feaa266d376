-- The lines so far are those of the records so far that are not held.
use Rattle.local_answers.specs.Inside.NewLineSteps.{SiftsRecords}
use Rattle.local_answers.proofs.new_lines.record_lines.Given as goal

abbrev pub invariant-loop-domain : goal.invariant-loop-domain
invariant-loop-domain g l = SiftsRecords (g.C.Closure.state l.closure).meaning l.initial.domain-iterator l.domain-iterator l.text.items
