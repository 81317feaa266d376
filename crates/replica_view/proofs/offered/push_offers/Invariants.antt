use Rattle.std.proofs.Common.{◌≡◌, ◌++◌, flat_map}
use Rattle.receipt_core.specs.Receipt.{offers_of}
use Rattle.closure_core.specs.AcceptedList.{document_of}
use Rattle.replica_view.proofs.offered.push_offers.Given as goal

abbrev pub invariant-loop-document : goal.invariant-loop-document
invariant-loop-document g l = l.offers.items ++ flat_map (λ d. offers_of (document_of l.domain d)) l.document-iterator
    ≡ l.initial.offers.items ++ flat_map (λ d. offers_of (document_of l.domain d)) l.initial.document-iterator
