use Rattle.std.proofs.Common.{rules}
use Rattle.byte_lines.proofs.PieceFacts.{Appends-piece}
use Rattle.byte_lines.proofs.sink.write_all.Goals as goal

pub pieces-preserved : goal.pieces-preserved
pieces-preserved g c =
    let step = c.in_ok-written.ensures in
    record {
      in_range = search rules;
      appended = Appends-piece _ _ _ c.args.bytes.now c.pieces.written c.in_ok-written.field-0 c.pieces.invariant.appended step.appends;
      tried = search rules;
      sound = search rules;
    }
