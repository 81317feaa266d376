use Rattle.jwk_set.proofs.ElementFacts.{one_authority, IsPlain-tree_of, depth-tree_of, form_of}
use Rattle.jwk_set.proofs.TreeFacts.{IsElement-tree_of}
use Rattle.jwk_set.proofs.laws.elements.Goals as goal

pub returns-clause-one : goal.returns-clause-one
returns-clause-one c = one_authority

pub returns-clause-form : goal.returns-clause-form
returns-clause-form c = form_of

pub returns-clause-reads_back : goal.returns-clause-reads_back
returns-clause-reads_back c = IsElement-tree_of

pub returns-clause-plain : goal.returns-clause-plain
returns-clause-plain c = IsPlain-tree_of

pub returns-clause-shallow : goal.returns-clause-shallow
returns-clause-shallow c = depth-tree_of
