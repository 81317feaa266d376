use Rattle.std.proofs.Common.{◌≤◌, length}
use denote.Text.{Utf8}
use denote.Shadow.{shadow}
use Rattle.spiffe_name.proofs.PathFacts.{Reads}
use Rattle.spiffe_name.proofs.id.fault_in_path.Given as goal

abbrev pub invariant-loop-after : goal.invariant-loop-after
invariant-loop-after l = record {
  text : shadow (Utf8 l.rest);
  reads : Reads l.path l.rest;
  fits : length l.rest ≤ length l.path;
}

abbrev pub decreases-loop-after : goal.decreases-loop-after
decreases-loop-after l = length l.rest
