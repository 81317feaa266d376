use Rattle.std.proofs.Common.{◌≡◌, ◌++◌, drop}
use Rattle.std.specs.List.{flat_map}
use Rattle.fedbundle.specs.Explain.{receipt_line}
use Rattle.fedbundle.proofs.chain_text.receipts_text.Given as goal

abbrev pub invariant-chain : goal.invariant-chain
invariant-chain l = l.text.items ++ flat_map receipt_line (drop l.receipt-index l.chain) ≡ flat_map receipt_line l.chain
