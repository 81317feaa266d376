use Rattle.std.proofs.Common.{◌≡◌, ◌∙◌, ◌++◌, ◌∷◌, [], sym, subst}
use Rattle.std.specs.Prelude.{None, Ok}
use Rattle.replica_sync.specs.ServedPieces.{came_taken}
use Rattle.replica_sync.proofs.ServedPieceFacts.{no_fault}
use Rattle.bucket_sums.specs.Quiet.{ServesQuietly, due_marks}
use Rattle.bucket_sums.proofs.QuietFacts.{quiet_nothing, quiet_still}
use Rattle.bucket_sums.proofs.quiet_serving.QuietServing.read.Goals as goal

pub returns-in-Some-clause-serves : goal.returns-in-Some-clause-serves
returns-in-Some-clause-serves g c config came written own h =
    let self = c.args.self.now in
    quiet_still self.opening self.fault c.in-Some.why config self.haves (due_marks self) came _ written c.in-Some.is h

pub returns-then-not-is_empty-clause-serves : goal.returns-then-not-is_empty-clause-serves
returns-then-not-is_empty-clause-serves g c config came written own h =
    let self = c.args.self.now in
    quiet_nothing self.opening self.fault config self.haves (due_marks self) (g.C.Closure.state c.args.closure.now).meaning came written
    (no_fault self.fault c.in_default.not-Some) h

pub returns-in-Ok-clause-serves : goal.returns-in-Ok-clause-serves
returns-in-Ok-clause-serves g c config came written own h =
    let self = c.args.self.now in
    let clear : self.fault ≡ None = no_fault self.fault c.in_default.not-Some in
    let m = (g.C.Closure.state c.args.closure.now).meaning in
    subst (λ f. ServesQuietly f config c.advance.new.self (came ++ came_taken c.args.piece.now m (Ok c.in-Ok.used) ∷ []) written)
    (sym (c.in-Ok.ensures.fault ∙ clear))
    (c.in-Ok.ensures.serves config came written own (subst (λ f. ServesQuietly f config self came written) clear h))

pub returns-in-Err-clause-serves : goal.returns-in-Err-clause-serves
returns-in-Err-clause-serves g c config came written own h =
    let self = c.args.self.now in
    let clear : self.fault ≡ None = no_fault self.fault c.in_default.not-Some in
    c.in-Err.ensures.serves config came written own (subst (λ f. ServesQuietly f config self came written) clear h)
