use Rattle.byte_lines.proofs.StreamFacts.{AtFeed-first}
use Rattle.byte_lines.proofs.read_ahead.ReadAhead.line_feed.Goals as goal

pub returns : goal.returns
returns c = rw (c.as_slice.ensures) at (AtFeed-first c.as_slice.result.now c.memchr.result c.memchr.ensures)
