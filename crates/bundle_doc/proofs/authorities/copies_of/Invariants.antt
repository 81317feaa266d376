use Rattle.std.proofs.Common.{◌≡◌, take}
use Rattle.bundle_doc.proofs.authorities.copies_of.Given as goal

abbrev pub invariant-loop-authority : goal.invariant-loop-authority
invariant-loop-authority l = l.copies.items ≡ take l.authority-index l.authorities
