use Rattle.std.proofs.Common.{length, vec_len}
use denote.Text.{Utf8}
use denote.Shadow.{shadow}
use Rattle.bundle_doc.proofs.CanonicalReaderFacts.{Keeps}
use Rattle.bundle_doc.proofs.canonical_reader.read_keys.Given as goal

abbrev pub invariant-loop-last : goal.invariant-loop-last
invariant-loop-last l = record {
  text : shadow (Utf8 l.rest);
  keeps : Keeps l.text l.authorities.items (vec_len l.authorities) l.last l.rest;
}

abbrev pub decreases-loop-last : goal.decreases-loop-last
decreases-loop-last l = length l.rest
