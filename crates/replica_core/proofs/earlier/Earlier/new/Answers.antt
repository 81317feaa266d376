-- At first no number is noted.
use Rattle.std.proofs.Common.{sym, ap, subst, List, ℕ}
use Rattle.sorted_order.specs.Sequence.{Sequence}
use Rattle.replica_core.specs.Inside.Earlier.{AreNoted}
use Rattle.replica_core.proofs.EarlierFacts.{noted-none}
use Rattle.replica_core.proofs.earlier.Earlier.new.Goals as goal

pub invariant_of-result : goal.invariant_of-result
invariant_of-result g c =
    subst (λ (ns : List ℕ). AreNoted g.T.Ord.cmp c.args.items.now 0 ns) (sym (ap (λ (s : Sequence). s.items) c.new.ensures))
    (noted-none g.T.Ord.cmp c.args.items.now)
