-- The node offers the triples so far.
use Rattle.std.proofs.Common.{◌≡◌, ℕ, List, [], ◌∷◌, ◌++◌, length, take}
use Rattle.fed_config.specs.Configuration.{AreDomains}
use Rattle.wait_index.specs.Net.{ListsReached}
use Rattle.receipt_core.specs.declared.triple.Triple.{Triple}
use Rattle.trust_closure.specs.Inside.NodeSpecs.{NodeSpec}
use Rattle.trust_closure.specs.Inside.NetOf.{IsLabelIndexOf, Widens}
use Rattle.trust_closure.proofs.wire.offer_triples.Given as goal

abbrev pub invariant-loop-triple : goal.invariant-loop-triple
invariant-loop-triple l = record {
  wired : (domains : List (List ℕ)) (spots : List (NodeSpec Triple)) (spot : NodeSpec Triple) → AreDomains l.held.config domains
      → l.node ≡ length spots → IsLabelIndexOf domains l.held.records (spots ++ spot ∷ []) l.initial.label_index
      → IsLabelIndexOf domains l.held.records (spots ++ record spot {
        offers =
            spot.offers ++ take l.triple-index l.triples;
      } ∷ []) l.label_index;
  widens : Widens l.triple-index l.initial.label_index l.label_index;
  reached : ListsReached l.label_index.net l.label_index.marked;
}
