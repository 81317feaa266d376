use Rattle.std.proofs.Common.{◌∙◌, refl}
use Rattle.bundle_doc.proofs.HashedFacts.{with_pieces-more}
use Rattle.bundle_doc.proofs.known_beginnings.+known_pieces.Goals as goal

pub returns-then-is_same-clause-rest : goal.returns-then-is_same-clause-rest
returns-then-is_same-clause-rest t c = λ m. with_pieces-more m _ _ _ _ _ _ _ c.in-Some-Some.ensures.cases.0
    (c.if-is_same.ensures.0 refl ∙ c.in-Some-Some.ensures'.cases.0) c.in-Some-Some.ensures'.cases.1 c.known_pieces-known.ensures.rest
