-- One more pair has a number in order.
use Rattle.std.proofs.Common.{◌∙◌, subst, sym}
use Rattle.closure_core.specs.Inside.Nodes.{pairs_of}
use Rattle.closure_parts.specs.Pairs.{IsDocumentTable}
use Rattle.closure_core.specs.AcceptedList.{document_of}
use Rattle.closure_parts.proofs.PairFacts.{pairing-more}
use Rattle.closure_parts.proofs.pairs.Pairs.add.Goals as goal

pub returns-clause-pairing : goal.returns-clause-pairing
returns-clause-pairing c =
    pairing-more (pairs_of c.args.seeds.now c.args.receipts.now) _ _ (document_of c.args.domain.now c.args.document.now)
    c.len-number.result c.first_number-first.result
    (subst (IsDocumentTable (pairs_of c.args.seeds.now c.args.receipts.now)) (sym c.self.view_is) c.requires.pairing)
    c.canonical-form.ensures.form (c.len-number.ensures ∙ c.self.inside.heads.ok.0)
    c.first_number-first.ensures.first c.push_reserved.ensures.items c.push_reserved-2.ensures.items
