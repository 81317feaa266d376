use Rattle.std.proofs.Common.{◌≡◌, ℕ, List, Bor, ◌++◌, [], ◌∷◌, ap, sym, ◌∙◌, subst, drop, take}
use Rattle.std.proofs.lemmas.Bool.{eq-eqb, eqb-true}
use Rattle.byte_lines.specs.Lines.{lines_of}
use Rattle.state_steps.specs.LineCuts.{IsLineStart}
use Rattle.state_steps.proofs.LineCutFacts.{end_part, end_some, end_whole}
use Rattle.state_steps.proofs.line_cuts.end_line.Goals.{then-is_whole, else-is_whole}
use Rattle.state_steps.proofs.line_cuts.end_line.Goals as goal

pub returns-clause-line : goal.returns-clause-line
returns-clause-line c =
    let text = c.args.text.now in
    let body = c.if-is_whole.body.now in
    let begin = c.line_start-begin.result in
    let last = c.in_ok-last.last.now in
    let split = c.in_ok-last.ensures.cases.0 in
    elim c.if-is_whole.branch [
      | then-is_whole w ↦
          let own : c.if-is_whole.body.now ≡ c.in_ok-last.front.now = ap (λ (b : Bor (List ℕ)). b.now) w.body-is in
          let is : text ≡ body ++ 10 ∷ [] =
          split ∙ ap (λ b. c.in_ok-last.front.now ++ b ∷ []) w.if-is_whole.true ∙ ap (λ f. f ++ 10 ∷ []) (sym own) in
          let ends = end_whole text body begin is c.line_start-begin.ensures in
          record {
            front = ends.0.0;
            found = ends.0.1 ∙ ap (λ l. (lines_of (take begin text)).whole ++ l ∷ []) (sym c.rest_from.ensures);
            whole = (λ yes. ends.1, λ empty. eq-eqb last 10 w.if-is_whole.true);
          }
      | else-is_whole w ↦
          let own : c.if-is_whole.body.now ≡ text = ap (λ (b : Bor (List ℕ)). b.now) w.body-is in
          let at : IsLineStart text begin = subst (λ t. IsLineStart t begin) own c.line_start-begin.ensures in
          let some = end_some text c.in_ok-last.front.now last begin split w.if-is_whole.false at in
          let ends = end_part text begin at some in
          record {
            front = ends.0.0;
            found = ends.0.1 ∙ ap (λ l. (lines_of (take begin text)).whole ++ l ∷ [])
                (sym (c.rest_from.ensures ∙ ap (λ t. drop begin t) own));
            whole = (λ yes. absurd (w.if-is_whole.false (eqb-true last 10 yes)), λ empty. absurd (ends.1 empty));
          }
    ]
