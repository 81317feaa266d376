-- The flag is that of the pair's one number.
use Rattle.std.proofs.Common.{◌∙◌, false, refl, subst, sym, ap}
use Rattle.std.specs.Prelude.{◌↔◌, IsTrue}
use Rattle.std.proofs.lemmas.Bool.{both_ways}
use Rattle.closure_core.specs.Inside.Nodes.{pairs_of, is_raised, flags_of}
use Rattle.closure_parts.specs.Pairs.{IsDocumentTable, HasRaised}
use Rattle.closure_core.specs.AcceptedList.{document_of}
use Rattle.closure_parts.proofs.PairFacts.{rising-sought, raised-found, raised-missing}
use Rattle.closure_parts.proofs.pairs.Pairs.is_raised.Goals as goal

pub find-requires-clause-rising : goal.find-requires-clause-rising
find-requires-clause-rising c =
    let h = subst (IsDocumentTable (pairs_of c.args.seeds.now c.args.receipts.now)) (sym c.self.view_is) c.requires in
    rising-sought (pairs_of c.args.seeds.now c.args.receipts.now) c.self.inside.order.items (document_of c.args.domain.now c.args.document.now) h.rising

pub returns-in-Ok : goal.returns-in-Ok
returns-in-Ok c =
    let pairs = pairs_of c.args.seeds.now c.args.receipts.now in
    let q = document_of c.args.domain.now c.args.document.now in
    let h = subst (IsDocumentTable pairs) (sym c.self.view_is) c.requires in
    subst (λ v. IsTrue c.flag_at.result ↔ HasRaised pairs v q) c.self.view_is
    (raised-found pairs _ h c.in-Ok.place c.get.result q c.flag_at.result c.canonical-form.ensures.form c.in-Ok.ensures c.get.ensures
    (c.flag_at.ensures ∙ ap (λ ks. is_raised (flags_of ks) c.get.result) c.deref.ensures.value))

pub returns-in-Err : goal.returns-in-Err
returns-in-Err c =
    let pairs = pairs_of c.args.seeds.now c.args.receipts.now in
    let q = document_of c.args.domain.now c.args.document.now in
    let h = subst (IsDocumentTable pairs) (sym c.self.view_is) c.requires in
    subst (λ v. IsTrue false ↔ HasRaised pairs v q) c.self.view_is
    ((λ e. absurd (both_ways false refl e)), (λ r. absurd (raised-missing pairs _ h c.in-Err.field-0 q c.in-Err.ensures r)))
