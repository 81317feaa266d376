-- The receipt has its flags, which are not raised.
use Rattle.std.proofs.Common.{◌≡◌, ◌++◌, ◌∷◌, ◌∙◌, [], List, ℕ, Bool, ap, sym, subst}
use Rattle.fed_config.specs.Configuration.{Configuration}
use Rattle.fed_config.specs.declared.seed.Seed.{Seed}
use Rattle.bundle_doc.specs.Bundle.{Bundle}
use Rattle.receipt_core.specs.Receipt.{Receipt, pair_of}
use Rattle.closure_core.specs.Inside.Nodes.{pairs_of}
use Rattle.closure_core.specs.AcceptedList.{document_of}
use Rattle.closure_parts.specs.Pairs.{IsDocumentTable}
use Rattle.closure_parts.specs.Held.{meaning_of}
use Rattle.plain_closure.specs.Plain.{IsSet, AreSound}
use Rattle.plain_closure.proofs.PlainChangeFacts.{set-more, sound-push}
use Rattle.plain_closure.proofs.settling.place_receipt.Goals as goal

pub returns-clause-set : goal.returns-clause-set
returns-clause-set c =
    let h = c.args.held.now in
    let seeds : c.seeds-seeds.result.now ≡ h.config.seeds = c.seeds-seeds.ensures ∙ ap (λ (a : Configuration). a.seeds) c.config.ensures.config in
    subst (IsSet c.insert.new.self c.add.new.self c.args.seed_offers.now) (sym c.push_reserved.ensures.items)
    (set-more h c.insert.new.self c.args.pairs.now c.add.new.self c.args.seed_offers.now c.args.released.now.items
    c.args.receipt c.requires.settled.set c.requires.absent.is c.requires.absent.unheld c.insert.ensures
    c.config-valid.ensures.valid
    (subst (λ (ss : List Seed). IsDocumentTable (pairs_of ss h.arrived ++ pair_of c.args.receipt ∷ []) c.add.new.self) seeds
    (subst (λ (rs : List Receipt). IsDocumentTable (pairs_of c.seeds-seeds.result.now rs ++ pair_of c.args.receipt ∷ []) c.add.new.self) c.arrived.ensures
    (subst (λ (d : List ℕ). IsDocumentTable
    (pairs_of c.seeds-seeds.result.now c.arrived.result.now ++ document_of d c.args.receipt.document ∷ [])
    c.add.new.self) c.domain.ensures.domain
    (subst (λ (b : Bundle). IsDocumentTable
    (pairs_of c.seeds-seeds.result.now c.arrived.result.now ++ document_of c.domain.result.now b ∷ [])
    c.add.new.self) c.document.ensures c.add.ensures.pairing)))))

pub returns-clause-sound : goal.returns-clause-sound
returns-clause-sound c =
    let h = c.args.held.now in
    subst (λ (fs : List Bool). AreSound (meaning_of c.insert.new.self) c.insert.new.self.arrived fs) (sym c.push_reserved.ensures.items)
    (sound-push h c.insert.new.self c.args.pairs.now c.args.seed_offers.now c.args.released.now.items c.args.receipt
    c.requires.settled c.requires.absent.is c.insert.ensures)
