use Rattle.std.proofs.Common.{option_copied}
use Rattle.closure_core.proofs.MemberFacts.{alike_itself}
use Rattle.replica_view.proofs.VoucherFacts.{domain_passed}
use Rattle.replica_view.proofs.shown_vouchers.is_domain_passed.Goals as goal

pub returns : goal.returns
returns g c =
    let m = (g.C.Closure.state c.args.closure.now).meaning in
    domain_passed m (option_copied c.args.chosen) c.args.vouchers.now c.requires c.args.domain.now (option_copied c.current.result)
    c.current.ensures
    (λ a b. c.one_view.ensures.current m m c.args.domain.now c.accepted-accepted.result a b (alike_itself m) c.accepted-accepted.ensures)
    c.is_left_aside-is_other.result c.is_current_voucher-is_voucher.result c.is_other_alone.result c.is_left_aside-is_other.ensures
    c.is_current_voucher-is_voucher.ensures c.is_other_alone.ensures
