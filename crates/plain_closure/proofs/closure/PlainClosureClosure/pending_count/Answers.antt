-- Pending are the receipts whose flags are not raised.
use Rattle.std.proofs.Common.{◌-◌, [], None, length, arith, ap, subst}
use Rattle.receipt_core.specs.Receipt.{Receipt}
use Rattle.closure_core.specs.Inside.Flags.{raised_count}
use Rattle.closure_core.specs.AcceptedList.{IsPendingCount}
use Rattle.plain_closure.proofs.SownFacts.{pending-plain}
use Rattle.plain_closure.proofs.closure.PlainClosureClosure.pending_count.Goals as goal

pub returns : goal.returns
returns c =
    let none : Receipt = record {
      domain = [];
      endpoint = record { text = []; domain = []; path = [] };
      document =
          record { authorities = []; rank = None; hint = None };
      voucher = record { 0 = [] };
      key = record { 0 = [] };
    } in
    let n = c.len.result - c.count_raised.result in
    subst (λ v. IsPendingCount v.meaning n) c.self.view_is
    (pending-plain c.self.inside.held c.self.inside.pairs c.self.inside.seed_offers.items c.self.inside.released.items none n c.self.invariant.settled
    (omega (
      arith,
      c.count_raised.ensures.few,
      c.count_raised.ensures.count,
      ap raised_count c.deref.ensures.value,
      ap length c.deref.ensures.value,
      c.deref.ensures.len,
      c.len.ensures,
    )))
