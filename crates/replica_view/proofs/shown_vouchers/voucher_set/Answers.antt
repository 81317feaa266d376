use Rattle.std.proofs.Common.{option_copied}
use Rattle.std.proofs.lemmas.Result.{IfOk-weaker}
use Rattle.std.specs.BTreeSet.{IsFromIterResult}
use Rattle.replica_view.specs.Inside.ShownVouchers.{IsVoucherSet, doc_id_cmp}
use Rattle.replica_view.proofs.VoucherFacts.{vouchers_set}
use Rattle.replica_view.proofs.shown_vouchers.voucher_set.Goals as goal

pub returns : goal.returns
returns g c =
    let m = (g.C.Closure.state c.args.closure.now).meaning in
    IfOk-weaker c.set_of.result (IsFromIterResult doc_id_cmp c.in_ok-ids.ids.items) (IsVoucherSet m (option_copied c.args.chosen))
    (λ set made. vouchers_set m (option_copied c.args.chosen) c.in_ok-ids.ids.items set c.in_ok-ids.ensures made) c.set_of.ensures
