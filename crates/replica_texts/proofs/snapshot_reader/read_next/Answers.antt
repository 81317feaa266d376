use Rattle.replica_texts.proofs.CountFacts.{next_number-most}
use Rattle.replica_texts.proofs.snapshot_reader.read_next.Goals as goal

pub returns-in_err-text-clause-few : goal.returns-in_err-text-clause-few
returns-in_err-text-clause-few g c = next_number-most (g.C.Closure.state c.args.closure.now).meaning c.config-config.ensures.valid

pub returns-in-Text-clause-few : goal.returns-in-Text-clause-few
returns-in-Text-clause-few g c = next_number-most (g.C.Closure.state c.args.closure.now).meaning c.config-config.ensures.valid

pub returns-in-TooLong-clause-few : goal.returns-in-TooLong-clause-few
returns-in-TooLong-clause-few g c = next_number-most (g.C.Closure.state c.args.closure.now).meaning c.config-config.ensures.valid

pub returns-in-Cut-clause-few : goal.returns-in-Cut-clause-few
returns-in-Cut-clause-few g c = next_number-most (g.C.Closure.state c.args.closure.now).meaning c.config-config.ensures.valid

pub returns-in-End-clause-few : goal.returns-in-End-clause-few
returns-in-End-clause-few g c = next_number-most (g.C.Closure.state c.args.closure.now).meaning c.config-config.ensures.valid
