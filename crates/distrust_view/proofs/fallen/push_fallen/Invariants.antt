use Rattle.distrust_view.specs.DistrustEffect.{fall_line}
use Rattle.distrust_view.proofs.PickedFacts.{IsUnaccepted, PicksSoFar}
use Rattle.distrust_view.proofs.fallen.push_fallen.Given as goal

abbrev pub invariant-loop-document : goal.invariant-loop-document
invariant-loop-document g l =
    PicksSoFar (IsUnaccepted (g.C.Closure.state l.after).meaning l.domain) (fall_line l.domain) l.initial.document-iterator l.document-iterator
    l.initial.out.items l.out.items
