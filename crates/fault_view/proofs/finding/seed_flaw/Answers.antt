use Rattle.serde_json.specs.View.{view}
use Rattle.fault_view.proofs.finding.seed_flaw.Goals as goal

pub returns-in-Some-clause-flaw : goal.returns-in-Some-clause-flaw
returns-in-Some-clause-flaw c = c.in-Some.ensures.0 (view c.args.config.now)

pub returns-clause-flaw : goal.returns-clause-flaw
returns-clause-flaw c = c.low_seed.ensures.flaw c.args.place
