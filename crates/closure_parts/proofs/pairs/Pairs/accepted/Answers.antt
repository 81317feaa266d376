-- The domain's numbers are next to each other.
use Rattle.std.proofs.Common.{◌<◌, ◌∙◌, length, ap, sym, subst}
use Rattle.std.specs.List.{All}
use Rattle.closure_core.specs.Inside.Nodes.{pairs_of}
use Rattle.closure_parts.specs.Pairs.{IsDocumentTable}
use Rattle.closure_parts.proofs.AcceptedFacts.{domain-sought, numbers-within}
use Rattle.closure_core.proofs.NodeFacts.{length-flags}
use Rattle.closure_parts.proofs.pairs.Pairs.accepted.Goals as goal

pub matching-requires-clause-rising : goal.matching-requires-clause-rising
matching-requires-clause-rising c =
    let h = subst (IsDocumentTable (pairs_of c.args.seeds.now c.args.receipts.now)) (sym c.self.view_is) c.requires in
    domain-sought (pairs_of c.args.seeds.now c.args.receipts.now) c.self.inside.order.items c.args.domain.now h.rising

pub new-requires : goal.new-requires
new-requires c =
    let pairs = pairs_of c.args.seeds.now c.args.receipts.now in
    let h = subst (IsDocumentTable pairs) (sym c.self.view_is) c.requires in
    record {
      flagged = length-flags c.as_slice.result.now ∙ ap length c.as_slice.ensures.value ∙ h.counted;
      within = subst (All (λ n. n < length pairs)) (sym c.matching.ensures) (numbers-within pairs c.self.inside.order.items c.args.domain.now h.within);
    }
