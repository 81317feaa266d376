use Rattle.std.proofs.Common.{◌≡◌, ◌++◌, drop, map}
use Rattle.receipt_core.specs.declared.triple.Triple.{Triple}
use Rattle.distrust_view.proofs.keys.keys_of_document.Given as goal

abbrev pub invariant-loop-offer : goal.invariant-loop-offer
invariant-loop-offer l =
    l.keys.items ++ map (λ (t : Triple). t.key) (drop l.offer-index l.offer-items) ≡ map (λ (t : Triple). t.key) l.offer-items
