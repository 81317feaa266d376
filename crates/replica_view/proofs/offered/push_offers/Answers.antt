use Rattle.std.proofs.Common.{◌++◌, sym, ap, ◌∙◌, subst, append-nil, flat_map}
use Rattle.receipt_core.specs.Receipt.{offers_of}
use Rattle.closure_core.specs.AcceptedList.{IsAcceptedList, document_of}
use Rattle.replica_view.proofs.offered.push_offers.Goals as goal

pub returns : goal.returns
returns g c = record {
  documents = c.into_iter-document-iterator.result;
  are = subst (IsAcceptedList (g.C.Closure.state c.args.closure.now).meaning c.args.domain.now)
      (sym c.into_iter-document-iterator.ensures.into_iter_gives) c.accepted-document-items.ensures;
  now = sym (append-nil c.loop-document.offers.items)
      ∙ ap (λ ds. c.loop-document.offers.items ++ flat_map (λ d. offers_of (document_of c.args.domain.now d)) ds) (sym c.in-None.ensures.steps.0)
      ∙ c.loop-document.invariant;
}
