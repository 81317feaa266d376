use Rattle.std.proofs.Common.{◌≡◌, ◌+◌, ◌++◌, length, ap, arith}
use Rattle.std.proofs.lemmas.List.{length-append}
use Rattle.state_steps.specs.declared.line_cuts.CountedLines.{CountedLines}
use Rattle.state_steps.proofs.LineCutFacts.{counted_feed, counted_part}
use Rattle.state_steps.proofs.line_cuts.CountedLines.add.Goals.{then-start-gt0, else-start-gt0}
use Rattle.state_steps.proofs.line_cuts.CountedLines.add.Goals as goal

pub returns : goal.returns
returns c = record {
  counted = λ text. λ fits. λ counted.
      let piece = c.args.piece.now in
      let start = c.line_start-start.result in
      let at = c.line_start-start.ensures in
      let sum = length-append text piece in
      let within = at.within in
      elim c.if-start-gt0.branch [
        | then-start-gt0 w ↦ record {
          read = grind (arith, c.saturating_add-self-2.ensures, w.self-is, counted.read, sum, fits);
          whole =
              let whole : c.if-start-gt0.self.whole ≡ length text + start =
              grind (arith, w.self-is, w.saturating_add-self.ensures, counted.read, sum, fits, within) in
              omega (arith, whole, counted_feed text piece start (omega (arith, w.if-start-gt0.true)) at);
        }
        | else-start-gt0 w ↦ record {
          read = grind (arith, c.saturating_add-self-2.ensures, w.self-is, counted.read, sum, fits);
          whole =
              let whole : c.if-start-gt0.self.whole ≡ c.args.self.now.whole = ap (λ (l : CountedLines). l.whole) w.self-is in
              omega (arith, whole, counted_part text piece c.args.self.now.whole start (omega (arith, w.if-start-gt0.false)) at counted.whole);
        }
      ];
}
