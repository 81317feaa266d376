use Rattle.std.proofs.Common.{sym, ap, ◌∙◌}
use Rattle.spiffe_name.specs.SpiffeId.{Id}
use Rattle.spiffe_name.proofs.IdFacts.{boundary}
use Rattle.spiffe_name.proofs.id.SpiffeId.path.Goals as goal

pub range_from-requires : goal.range_from-requires
range_from-requires c = λ _.
    rw (c.as_str-2.ensures.text ∙ sym (ap (λ (id : Id). id.text) c.self.view_is), c.as_str.ensures.text) (boundary _ _ _ c.self.invariant)
