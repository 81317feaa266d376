use Rattle.std.proofs.Common.{◌≡◌, ◌++◌, drop, map}
use Rattle.json_reports.specs.ChainJson.{chain_receipt_json}
use Rattle.json_reports.proofs.chain_object.receipt_texts.Given as goal

abbrev pub invariant-chain : goal.invariant-chain
invariant-chain l = l.texts.items ++ map chain_receipt_json (drop l.receipt-index l.chain) ≡ map chain_receipt_json l.chain
