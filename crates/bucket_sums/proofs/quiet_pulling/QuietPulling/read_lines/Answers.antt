use Rattle.std.proofs.Common.{◌≡◌, ◌∙◌, ◌++◌, ◌∷◌, [], refl, sym, subst}
use Rattle.std.specs.Prelude.{None}
use Rattle.replica_sync.proofs.ServedPieceFacts.{no_fault}
use Rattle.bucket_sums.specs.QuietPulls.{PullsFrom, due_question}
use Rattle.bucket_sums.proofs.QuietPullFacts.{one_piece, pull_still, quiet_piece}
use Rattle.bucket_sums.proofs.quiet_pulling.QuietPulling.read_lines.Goals as goal

pub returns-in-Some-clause-pulls : goal.returns-in-Some-clause-pulls
returns-in-Some-clause-pulls g c =
    let self = c.args.self.now in
    let m = (g.C.Closure.state c.args.closure.now).meaning in
    let piece = c.args.piece.now in
    record {
      pieces = quiet_piece piece m ∷ [];
      whole = one_piece piece m;
      alone = (refl, refl);
      pulls = λ start came written own h.
          pull_still self.stage self.fault c.in-Some.why (due_question self) m start came piece written c.in-Some.is h;
    }

pub returns-in-Ok-clause-pulls : goal.returns-in-Ok-clause-pulls
returns-in-Ok-clause-pulls g c =
    let self = c.args.self.now in
    let then = c.advance.new.self in
    let clear : self.fault ≡ None = no_fault self.fault c.in_default.not-Some in
    let steps = c.in-Ok.ensures.pulls in
    record {
      pieces = steps.pieces;
      whole = steps.whole;
      alone = steps.alone;
      pulls = λ start came written own h.
          subst (λ f. PullsFrom then.stage f (due_question then) start (came ++ steps.pieces) written)
          (sym (c.in-Ok.ensures.fault ∙ clear))
          (steps.pulls start came written own (subst (λ f. PullsFrom self.stage f (due_question self) start came written) clear h));
    }

pub returns-in-Err-clause-pulls : goal.returns-in-Err-clause-pulls
returns-in-Err-clause-pulls g c =
    let self = c.args.self.now in
    let clear : self.fault ≡ None = no_fault self.fault c.in_default.not-Some in
    let steps = c.in-Err.ensures.pulls in
    record {
      pieces = steps.pieces;
      whole = steps.whole;
      alone = steps.alone;
      pulls = λ start came written own h.
          steps.pulls start came written own (subst (λ f. PullsFrom self.stage f (due_question self) start came written) clear h);
    }
