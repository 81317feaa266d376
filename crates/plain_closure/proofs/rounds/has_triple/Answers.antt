-- The triple is among them.
use Rattle.std.proofs.Common.{◌∙◌, sym}
use Rattle.std.proofs.lemmas.Map.Views.{tells_apart}
use Rattle.receipt_core.specs.declared.triple.Triple.{Triple}
use Rattle.receipt_core.specs.Order.{same_triple, triple_equiv}
use Rattle.receipt_core.proofs.LineFacts.{one_triple}
use Rattle.plain_closure.proofs.PlainFacts.{any_has, has_any}
use Rattle.plain_closure.proofs.rounds.has_triple.Goals as goal

pub returns : goal.returns
returns c =
    let t = c.args.sought.now in (
      λ e. any_has (λ (x : Triple). same_triple x t) t (λ x h. tells_apart one_triple x t h) c.args.triples.now (sym c.contains.ensures.value ∙ e),
      λ has. c.contains.ensures.value ∙ has_any (λ (x : Triple). same_triple x t) t (triple_equiv.refl t) c.args.triples.now has,
    )
