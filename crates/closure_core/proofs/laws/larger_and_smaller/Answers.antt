use Rattle.std.proofs.Common.{sym, subst}
use Rattle.std.specs.List.{Contains}
use Rattle.closure_core.proofs.AlikeFacts.{same_turned}
use Rattle.closure_core.proofs.MemberFacts.{member_more}
use Rattle.closure_core.proofs.laws.larger_and_smaller.Goals as goal

pub returns-clause-receipts : goal.returns-clause-receipts
returns-clause-receipts c old new same records more =
    member_more old new same more (λ x has. subst (λ xs. Contains xs x) (sym records) has)

pub returns-clause-records : goal.returns-clause-records
returns-clause-records c old new same held more =
    member_more new old (same_turned old.config new.config same) (λ r has. subst (λ rs. Contains rs r) (sym held) has) more

pub returns-clause-sets : goal.returns-clause-sets
returns-clause-sets c one other same held records p = (
  member_more one other same (λ r. (held r).0) (λ x. (records x).1) p,
  member_more other one (same_turned one.config other.config same) (λ r. (held r).1) (λ x. (records x).0) p,
)
