use Rattle.std.proofs.Common.{◌≡◌, ◌++◌, drop}
use Rattle.std.specs.List.{flat_map}
use Rattle.replica_texts.specs.Messages.{receipt_text}
use Rattle.replica_c_calls.proofs.held_texts.chain_lines.Given as goal

-- what is written, with the lines of the receipts that are left, is the lines of all
abbrev pub invariant-chain : goal.invariant-chain
invariant-chain l = l.text.items ++ flat_map receipt_text (drop l.receipt-index l.chain) ≡ flat_map receipt_text l.chain
