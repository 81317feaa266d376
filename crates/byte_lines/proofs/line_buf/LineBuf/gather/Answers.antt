use Rattle.std.proofs.Common.{◌≡◌, ◌<◌, ◌-◌, length, arith, subst, unwrap_or, List, ℕ}
use Rattle.byte_lines.specs.Ahead.{ahead_of}
use Rattle.byte_lines.proofs.StepFacts.{too_much}
use Rattle.byte_lines.proofs.line_buf.LineBuf.gather.Goals as goal

pub returns-then-count-len-clause-gathers : goal.returns-then-count-len-clause-gathers
returns-then-count-len-clause-gathers c =
    let lines = c.args.self.now in
    let count = c.unwrap_or-count.result in
    let over : 8388608 - length lines.line.items < count = omega arith in
    let is : count ≡ unwrap_or c.line_feed-place.result (length (ahead_of lines.ahead)) =
    subst (λ (l : List ℕ). count ≡ unwrap_or c.line_feed-place.result (length l)) c.as_slice-piece.ensures c.unwrap_or-count.ensures in (
      too_much lines.is_given lines.line.items (ahead_of lines.ahead) _ c.line_feed-place.result count c.requires.open
          lines.unbroken c.line_feed-place.ensures is over c.pass.ensures.bytes,
      c.clear.ensures.items,
      c.requires.open,
    )
