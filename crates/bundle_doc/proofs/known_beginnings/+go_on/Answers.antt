use Rattle.std.proofs.Common.{◌++◌, ap, ◌∙◌, append_assoc}
use Rattle.sha2.specs.Sha256.{sha256}
use Rattle.bundle_doc.proofs.HashedFacts.{AreHashed-push, joined}
use Rattle.bundle_doc.proofs.known_beginnings.+go_on.Goals as goal

pub returns-in_err-digest-in-Some-clause-pieces : goal.returns-in_err-digest-in-Some-clause-pieces
returns-in_err-digest-in-Some-clause-pieces t c = λ m are holds.
    let both : _ = AreHashed-push m _ _ _ _ c.in_ok-push-in-Some.ensures.items c.in_ok-clone-in-Some.ensures.cases are (c.update.ensures _ holds) in
    c.go_on.ensures.pieces m both.0 both.1

pub returns-in_ok-digest-in-Some-clause-pieces : goal.returns-in_ok-digest-in-Some-clause-pieces
returns-in_ok-digest-in-Some-clause-pieces t c = λ m are holds.
    let both : _ = AreHashed-push m _ _ _ _ c.in_ok-push-in-Some.ensures.items c.in_ok-clone-in-Some.ensures.cases are (c.update.ensures _ holds) in
    c.go_on.ensures.pieces m both.0 both.1

pub returns-in_ok-digest-in-Some-clause-digest : goal.returns-in_ok-digest-in-Some-clause-digest
returns-in_ok-digest-in-Some-clause-digest t c = λ m holds.
    c.in_ok-digest-in-Some.ensures.digest (m ++ c.in-Some.bytes.now) (c.update.ensures m holds)
    ∙ ap sha256 (append_assoc m c.in-Some.bytes.now c.in-Some.rest.now
    ∙ ap (λ x. m ++ x) (joined c.args.text.now c.in-Some.bytes.now c.in-Some.rest.now c.in-Some.ensures.cases.0 c.in-Some.ensures.cases.1))
