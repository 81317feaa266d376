use Rattle.std.proofs.Common.{vec_len, string_bytes}
use Rattle.bundle_doc.proofs.EntryFacts.{Writes}
use Rattle.bundle_doc.proofs.elements.write_elements.Given as goal

abbrev pub invariant-loop-text : goal.invariant-loop-text
invariant-loop-text l = Writes l.text-iterator l.authorities.items (vec_len l.authorities) (string_bytes l.out) l.initial.text-iterator
