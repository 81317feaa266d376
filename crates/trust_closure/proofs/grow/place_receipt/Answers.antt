-- The node of the receipt is added to the index, and its document to the different ones.
use Rattle.std.proofs.Common.{◌≡◌, ◌++◌, ◌∷◌, [], List, ℕ, ap, subst, ◌∙◌}
use Rattle.fed_config.specs.declared.seed.Seed.{Seed}
use Rattle.bundle_doc.specs.Bundle.{Bundle}
use Rattle.receipt_core.specs.Receipt.{Receipt, pair_of}
use Rattle.closure_core.specs.Inside.Nodes.{pairs_of}
use Rattle.closure_core.specs.AcceptedList.{document_of}
use Rattle.closure_parts.specs.Pairs.{IsDocumentTable}
use Rattle.trust_closure.proofs.IndexFacts.{built-more}
use Rattle.trust_closure.proofs.grow.place_receipt.Goals as goal

pub returns-clause-built : goal.returns-clause-built
returns-clause-built c =
    let h = c.args.held.now in
    let seeds : c.seeds-seeds.result.now ≡ h.config.seeds = c.seeds-seeds.ensures ∙ ap (λ a. a.seeds) c.config.ensures.config in
    let pairing = c.add.ensures.pairing in
    built-more h c.insert.new.self c.args.pairs.now c.add.new.self c.args.label_index.now c.add_receipt.new.label_index
    c.args.receipt c.requires.built c.requires.absent.is c.requires.absent.unheld c.insert.ensures
    c.config-valid.ensures.valid
    c.add_receipt.ensures.wired c.add_receipt.ensures.reached
    (subst (λ (ss : List Seed). IsDocumentTable (pairs_of ss h.arrived ++ pair_of c.args.receipt ∷ []) c.add.new.self) seeds
    (subst (λ (rs : List Receipt). IsDocumentTable (pairs_of c.seeds-seeds.result.now rs ++ pair_of c.args.receipt ∷ []) c.add.new.self) c.arrived.ensures
    (subst (λ (d : List ℕ). IsDocumentTable
    (pairs_of c.seeds-seeds.result.now c.arrived.result.now ++ document_of d c.args.receipt.document ∷ [])
    c.add.new.self) c.domain.ensures.domain
    (subst (λ (b : Bundle). IsDocumentTable
    (pairs_of c.seeds-seeds.result.now c.arrived.result.now ++ document_of c.domain.result.now b ∷ [])
    c.add.new.self) c.document.ensures pairing))))
