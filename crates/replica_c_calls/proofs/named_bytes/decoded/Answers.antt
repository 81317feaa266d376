use Rattle.std.proofs.Common.{ap, Some}
use Rattle.receipt_core.proofs.HexFacts.{decoded_digest}
use Rattle.replica_c_calls.proofs.named_bytes.decoded.Goals as goal

-- the digits of a digest are decoded, to that digest
pub returns-in-Ok : goal.returns-in-Ok
returns-in-Ok c = λ id e is.
    ap Some (decoded_digest c.args.bytes.now c.decode_to_slice.new.out id c.decode_to_slice.result c.decode_to_slice.ensures.value e is).1

pub returns-in-Err : goal.returns-in-Err
returns-in-Err c = λ id e is.
    let ok = (decoded_digest c.args.bytes.now c.decode_to_slice.new.out id c.decode_to_slice.result c.decode_to_slice.ensures.value e is).0 in
    let err = c.in-Err.is in
    absurd (cc (ok, err))
