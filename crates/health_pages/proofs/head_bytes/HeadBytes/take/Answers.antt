use Rattle.std.proofs.Common.{arith, length-take}
use Rattle.health_pages.proofs.VerdictFacts.{awaited_of, ended_of, found_of, kept_found, kept_short}
use Rattle.health_pages.proofs.head_bytes.HeadBytes.take.Goals as goal

pub keep-requires : goal.keep-requires
keep-requires c = found_of _ _ c.args.self.now.awaited c.args.self.now.ended

pub invariant_of-self : goal.invariant_of-self
invariant_of-self c =
    let was = c.args.self.now in
    let found = kept_found c.keep.result was.bytes.items c.keep.new.bytes.items _ was.end c.keep.new.end (found_of _ _ was.awaited was.ended)
    c.keep.ensures.kept c.keep.ensures.left in
    record {
      short = kept_short c.keep.result was.bytes.items c.keep.new.bytes.items _ was.end c.keep.new.end was.short
          (omega (arith, c.len-room.ensures, c.min.ensures, was.short, length-take c.min.result c.args.piece.now))
          c.keep.ensures.kept c.keep.ensures.left;
      awaited = awaited_of _ _ found;
      ended = ended_of _ _ found;
    }
