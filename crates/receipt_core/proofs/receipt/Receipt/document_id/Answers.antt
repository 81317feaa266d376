use Rattle.std.proofs.Common.{◌≡◌, ◌≤◌, ◌∙◌, List, [], ◌∷◌, ap, subst, map, length, get_or, arith}
use Rattle.jwk_set.specs.declared.authority.KeyId.{KeyId}
use Rattle.bundle_doc.specs.Bundle.{doc_id_of}
use Rattle.bundle_doc.specs.declared.document.DocId.{DocId}
use Rattle.receipt_core.specs.Receipt.{Receipt, Pair, offer_of, key_ids}
use Rattle.receipt_core.specs.declared.triple.Triple.{Triple}
use Rattle.receipt_core.proofs.receipt.Receipt.document_id.Goals as goal

-- each offer has the document's id, so the first has
first_offer : (p : Pair) (keys : List KeyId) (first : Triple) → 1 ≤ length (map (offer_of p) keys)
    → first ≡ get_or (map (offer_of p) keys) 0 first → first.document.0 ≡ doc_id_of p.domain p.document
first_offer p [] first some is = let no : ⊥ = omega (arith, some) in absurd no
first_offer p (key ∷ keys) first some is = ap (λ (t : Triple). t.document.0) is

pub returns-in-len1-up : goal.returns-in-len1-up
returns-in-len1-up c =
    let p : Pair = record { domain = c.self.inside.domain; document = c.self.inside.document } in
    let first = c.first-item.result in
    let same = c.as_slice.ensures.value ∙ c.self.invariant.kept_offers in
    ap (λ (d : DocId). d.0) c.document.ensures
    ∙ first_offer p (key_ids p.document.authorities) first
    (subst (λ (offers : List Triple). 1 ≤ length offers) same c.in-len1-up.len_at_least)
    (subst (λ (offers : List Triple). first ≡ get_or offers 0 first) same c.first-item.is)
    ∙ ap (λ (r : Receipt). doc_id_of r.domain r.document) c.self.view_is
