use Rattle.std.proofs.Common.{◌∙◌, ap, sym}
use Rattle.std.specs.Cmp.{tied_itself}
use Rattle.receipt_core.specs.Receipt.{triple_cmp}
use Rattle.receipt_core.specs.Order.{triple_total}
use Rattle.receipt_core.proofs.OrderFacts.{states_same}
use Rattle.receipt_core.proofs.LineFacts.{one_triple}
use Rattle.receipt_core.proofs.triple.TriplePartialEq.eq.Goals as goal

pub returns-clause-meaning : goal.returns-clause-meaning
returns-clause-meaning c =
    let x = c.args.self.now in
    let y = c.args.other.now in
    states_same x y c.cmp.result c.eq.result c.eq.ensures
    (λ e. one_triple x y (sym c.cmp.ensures ∙ e))
    (λ same. c.cmp.ensures ∙ ap (triple_cmp x) (sym same) ∙ tied_itself triple_total x)
