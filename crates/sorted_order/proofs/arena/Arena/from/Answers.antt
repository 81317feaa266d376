use Rattle.std.proofs.Common.{◌∙◌, ap, drop}
use Rattle.sorted_order.specs.ArenaView.{in_order, picked}
use Rattle.sorted_order.proofs.PickedFacts.{drop-picked}
use Rattle.sorted_order.proofs.arena.Arena.from.Goals as goal

pub returns : goal.returns
returns g c =
    let a = c.self.inside in
    c.new.ensures ∙ ap (λ xs. picked xs c.from.result) c.as_slice.ensures.value ∙ ap (λ ns. picked a.items.items ns) c.from.ensures
    ∙ drop-picked a.items.items a.order.items c.args.at c.self.invariant.within
    ∙ ap (λ s. drop c.args.at (in_order s)) c.self.view_is
