use Rattle.closure_core.proofs.UnionFacts.{union_order, union_grouping, union_itself}
use Rattle.closure_core.proofs.laws.merges.Goals as goal

pub returns-clause-order : goal.returns-clause-order
returns-clause-order c m n is are = union_order m n is are

pub returns-clause-grouping : goal.returns-clause-grouping
returns-clause-grouping c l m n is are own = union_grouping l m n is are own

pub returns-clause-itself : goal.returns-clause-itself
returns-clause-itself c m is = union_itself m is
