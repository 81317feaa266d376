use Rattle.side_by_side.proofs.PassingFacts.{begun_by_steps, own_lines, passed_by_steps}
use Rattle.side_by_side.proofs.laws.passing.Goals as goal

pub returns-clause-passes : goal.returns-clause-passes
returns-clause-passes c = passed_by_steps (record {
  sets = record { receipts = c.sets.ensures.receipts; records = c.sets.ensures.records };
  gains = record { takes = c.effects.ensures.takes; revokes = c.effects.ensures.revokes };
})

pub returns-clause-begins : goal.returns-clause-begins
returns-clause-begins c = begun_by_steps (record {
  sets = record { receipts = c.sets.ensures.receipts; records = c.sets.ensures.records };
  gains = record { takes = c.effects.ensures.takes; revokes = c.effects.ensures.revokes };
})

pub returns-clause-own : goal.returns-clause-own
returns-clause-own c = own_lines
