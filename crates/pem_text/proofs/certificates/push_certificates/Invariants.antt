use Rattle.std.proofs.Common.{◌≡◌, ◌++◌, drop, flat_map}
use Rattle.pem_text.specs.Pem.{authority_pem}
use Rattle.pem_text.proofs.certificates.push_certificates.Given as goal

abbrev pub invariant-loop-authority : goal.invariant-loop-authority
invariant-loop-authority l =
    l.out.items ++ flat_map authority_pem (drop l.authority-index l.authorities) ≡ l.initial.out.items ++ flat_map authority_pem l.authorities
