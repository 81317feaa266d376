use Rattle.std.proofs.Common.{◌∙◌, [], arith}
use Rattle.byte_lines.proofs.StreamFacts.{went_kept, went_all, went_to_feed}
use Rattle.byte_lines.proofs.StepFacts.{unbroken_at_first, none_there}
use Rattle.byte_lines.proofs.read_ahead.ReadAhead.skip_line.Goals as goal

pub returns-in-Some-clause-line : goal.returns-in-Some-clause-line
returns-in-Some-clause-line g c _ =
    let went = went_kept _ _ _ c.pieces.invariant.went c.in_ok-fill.ensures.bytes in
    rw c.pass.ensures.bytes (went_to_feed _ _ _ c.in-Some.place went c.in-Some.ensures)

pub pieces-preserved : goal.pieces-preserved
pieces-preserved g c =
    let went = went_kept _ _ _ c.pieces.invariant.went c.in_ok-fill.ensures.bytes in
    record {
      room = omega (arith, c.pass_all.ensures.room, c.in_ok-fill.ensures.room);
      went = rw c.pass_all.ensures.bytes (went_all _ _ _ went c.in_default.ensures);
      spent = rw c.pass_all.ensures.bytes (omega (arith, c.in_ok-fill.ensures.spends));
      none = λ _. unbroken_at_first [] _ _ _ c.pieces.invariant.none c.pieces.invariant.same c.in_ok-fill.ensures.held c.in_default.ensures;
      same = none_there _ c.pass_all.ensures.bytes;
      sound = c.in_ok-fill.ensures.fault ∙ c.pieces.invariant.sound;
    }
