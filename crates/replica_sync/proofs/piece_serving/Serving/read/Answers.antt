use Rattle.std.proofs.Common.{◌≡◌, ◌∙◌, true, false, List, ℕ, [], sym, ap, length, refl}
use Rattle.std.specs.Prelude.{◌==◌}
use Rattle.replica_sync.specs.ServedPieces.{due_give, kept_have}
use Rattle.replica_sync.specs.AnsweredFrom.{answered_from}
use Rattle.replica_sync.proofs.FeedFacts.{all_taken}
use Rattle.replica_sync.proofs.ServedPieceFacts.{empty_text, kept_plain, no_fault, served_nothing, served_piece}
use Rattle.replica_sync.proofs.piece_serving.Serving.read.Goals as goal

pub returns-then-not-is_empty-clause-serves : goal.returns-then-not-is_empty-clause-serves
returns-then-not-is_empty-clause-serves g c came written serves =
    let self = c.args.self.now in
    served_nothing self.fault came (kept_have self) [] _ (answered_from self.records (g.C.Closure.state c.args.closure.now).meaning)
    (no_fault self.fault c.in_default.not-Some) refl
    (kept_plain self.part.has_ended self.part.line.items self.part.unbroken) serves

pub returns-in-Ok-clause-serves : goal.returns-in-Ok-clause-serves
returns-in-Ok-clause-serves g c came written serves =
    let self = c.args.self.now in
    let idle : due_give self ≡ [] =
    empty_text (due_give self) (ap (λ (l : List ℕ). length l == 0) (sym c.output.ensures) ∙ sym c.is_empty.ensures ∙ c.if-not-is_empty.false) in
    served_piece self.fault c.advance.new.self.fault (answered_from self.records (g.C.Closure.state c.args.closure.now).meaning) came
    (kept_have self) c.args.piece.now c.in-Ok.used
    (kept_have c.advance.new.self) (due_give self) (due_give c.advance.new.self) written (no_fault self.fault c.in_default.not-Some)
    c.in-Ok.ensures.fault idle c.in-Ok.ensures.ok serves

pub returns-then-not-is_empty-clause-whole : goal.returns-then-not-is_empty-clause-whole
returns-then-not-is_empty-clause-whole g c idle plain =
    let no : true ≡ false =
    ap (λ (l : List ℕ). length l == 0) (sym (c.output.ensures ∙ idle)) ∙ sym c.is_empty.ensures ∙ c.if-not-is_empty.true in
    absurd (cc)

pub returns-in-Ok-clause-whole : goal.returns-in-Ok-clause-whole
returns-in-Ok-clause-whole g c idle plain =
    let self = c.args.self.now in
    (all_taken (answered_from self.records (g.C.Closure.state c.args.closure.now).meaning) (kept_have self) c.args.piece.now c.in-Ok.used
    (kept_have c.advance.new.self) (due_give c.advance.new.self) c.in-Ok.ensures.ok plain).0

pub returns-in-Ok-clause-quiet : goal.returns-in-Ok-clause-quiet
returns-in-Ok-clause-quiet g c idle plain =
    let self = c.args.self.now in
    (all_taken (answered_from self.records (g.C.Closure.state c.args.closure.now).meaning) (kept_have self) c.args.piece.now c.in-Ok.used
    (kept_have c.advance.new.self) (due_give c.advance.new.self) c.in-Ok.ensures.ok plain).1
