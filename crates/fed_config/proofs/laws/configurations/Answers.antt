use Rattle.fed_config.proofs.CauseFacts.{one_cause}
use Rattle.fed_config.proofs.DomainFacts.{one_list}
use Rattle.fed_config.proofs.MeaningFacts.{one_configuration, refused_none}
use Rattle.fed_config.proofs.laws.configurations.Goals as goal

pub returns-clause-one : goal.returns-clause-one
returns-clause-one c = one_configuration c.one_reading.ensures c.values.ensures.one

pub returns-clause-none : goal.returns-clause-none
returns-clause-none c = refused_none c.one_reading.ensures c.values.ensures.one

pub returns-clause-one_cause : goal.returns-clause-one_cause
returns-clause-one_cause c = one_cause

pub returns-clause-one_list : goal.returns-clause-one_list
returns-clause-one_list c = one_list
