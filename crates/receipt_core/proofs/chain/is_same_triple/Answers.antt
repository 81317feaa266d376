use Rattle.std.proofs.Common.{◌∙◌, ap, sym}
use Rattle.std.specs.Cmp.{tied_itself}
use Rattle.receipt_core.specs.Receipt.{triple_cmp}
use Rattle.receipt_core.specs.Order.{triple_total}
use Rattle.receipt_core.proofs.OrderFacts.{states_same}
use Rattle.receipt_core.proofs.LineFacts.{one_triple}
use Rattle.receipt_core.proofs.chain.is_same_triple.Goals as goal

pub returns : goal.returns
returns c =
    let x = c.args.one.now in
    let y = c.args.other.now in
    states_same x y c.cmp.result c.eq.result c.eq.ensures
    (λ e. one_triple x y (sym c.cmp.ensures ∙ e))
    (λ same. c.cmp.ensures ∙ ap (triple_cmp x) (sym same) ∙ tied_itself triple_total x)
