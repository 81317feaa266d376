-- What was taken is what the source gave, within the limit, and the source is as sound as it was.
use Rattle.std.proofs.Common.{◌≡◌, ◌+◌, ◌-◌, ◌<◌, ◌≤◌, vec_len, false}
use Rattle.std.specs.Io.KnownBytes.{Consumes}
use Rattle.byte_lines.proofs.source.read_up_to.Given as goal

abbrev pub invariant-pieces : goal.invariant-pieces
invariant-pieces g l = record {
  within : vec_len l.taken ≤ l.limit;
  room : 0 < l.limit → 0 < vec_len l.chunk;
  consumed : Consumes (g.R.Source.remaining l.initial.source) (g.R.Source.remaining l.source) l.taken.items;
  spent : g.R.Source.budget l.source + vec_len l.taken ≤ g.R.Source.budget l.initial.source;
  tried : 0 < vec_len l.taken → g.R.Source.has_failed l.initial.source ≡ false;
  sound : g.R.Source.has_failed l.source ≡ g.R.Source.has_failed l.initial.source;
}

abbrev pub decreases-pieces : goal.decreases-pieces
decreases-pieces g l = l.limit - vec_len l.taken
