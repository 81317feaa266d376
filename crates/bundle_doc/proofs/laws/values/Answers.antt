use Rattle.bundle_doc.proofs.BundleFacts.{one_meaning}
use Rattle.bundle_doc.proofs.RefusalFacts.{tree_none, one_tree_cause}
use Rattle.bundle_doc.proofs.laws.values.Goals as goal

pub returns-clause-one : goal.returns-clause-one
returns-clause-one c = one_meaning

pub returns-clause-none : goal.returns-clause-none
returns-clause-none c = tree_none

pub returns-clause-one_cause : goal.returns-clause-one_cause
returns-clause-one_cause c = one_tree_cause
