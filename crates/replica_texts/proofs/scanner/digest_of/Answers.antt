use Rattle.std.proofs.Common.{sym}
use Rattle.receipt_core.proofs.HexFacts.{decoded_digest}
use Rattle.replica_texts.proofs.scanner.digest_of.Goals as goal

pub returns : goal.returns
returns c = λ digest is e. (decoded_digest c.args.digits.now c.decode_to_slice.new.out digest c.decode_to_slice.result
    c.decode_to_slice.ensures.value (sym e) is).1
