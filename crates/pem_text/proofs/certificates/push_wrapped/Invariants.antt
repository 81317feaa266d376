use Rattle.std.proofs.Common.{◌≡◌, ◌≤◌, ◌++◌, drop}
use Rattle.pem_text.specs.Pem.{wrapped, wrapped_from}
use Rattle.pem_text.proofs.certificates.push_wrapped.Given as goal

abbrev pub invariant-loop-symbol : goal.invariant-loop-symbol
invariant-loop-symbol l = record {
  within : l.column ≤ 64;
  written : l.out.items ++ wrapped_from l.column (drop l.symbol-index l.symbol-items) ≡ l.initial.out.items ++ wrapped l.symbol-items;
}
