use Rattle.std.proofs.Common.{[], ◌∷◌, ◌++◌, ◌∙◌, sym, subst}
use Rattle.sha2.specs.Hashers.{Holds256}
use Rattle.bundle_doc.specs.Hashed.{AreHashed, with_pieces}
use Rattle.bundle_doc.proofs.HashedFacts.{AreHashed-take}
use Rattle.bundle_doc.proofs.known_beginnings.KnownBeginning.digest.Goals as goal

pub hasher_behind-requires : goal.hasher_behind-requires
hasher_behind-requires c = subst (AreHashed _) (sym (c.as_slice-2.ensures.value ∙ c.truncate.ensures.items)) (AreHashed-take _ _ _ c.self.invariant)

pub invariant_of-self : goal.invariant_of-self
invariant_of-self c = subst (AreHashed _) (sym c.truncate.ensures.items) (AreHashed-take _ _ _ c.self.invariant)

pub invariant_of-self-in_err-digest : goal.invariant_of-self-in_err-digest
invariant_of-self-in_err-digest c =
    c.go_on.ensures.pieces _ (subst (AreHashed _) (sym c.truncate.ensures.items) (AreHashed-take _ _ _ c.self.invariant))
    (subst (λ x. Holds256 c.in_ok-hasher.hasher (with_pieces (c.self.inside.domain ++ 10 ∷ []) x)) c.as_slice-2.ensures.value c.in_ok-hasher.ensures)

pub invariant_of-self-2 : goal.invariant_of-self-2
invariant_of-self-2 c =
    c.go_on.ensures.pieces _ (subst (AreHashed _) (sym c.truncate.ensures.items) (AreHashed-take _ _ _ c.self.invariant))
    (subst (λ x. Holds256 c.in_ok-hasher.hasher (with_pieces (c.self.inside.domain ++ 10 ∷ []) x)) c.as_slice-2.ensures.value c.in_ok-hasher.ensures)
