use Rattle.std.proofs.Common.{ap, Some}
use Rattle.receipt_core.proofs.HexFacts.{decoded_digest}
use Rattle.receipt_core.proofs.members.decoded.Goals as goal

pub returns-in-Ok : goal.returns-in-Ok
returns-in-Ok c = λ d e is. ap Some (decoded_digest c.args.text.now c.decode_to_slice.new.out d c.decode_to_slice.result c.decode_to_slice.ensures.value e is).1

pub returns-in-Err : goal.returns-in-Err
returns-in-Err c = λ d e is.
    let ok = (decoded_digest c.args.text.now c.decode_to_slice.new.out d c.decode_to_slice.result c.decode_to_slice.ensures.value e is).0 in
    let err = c.in-Err.is in
    absurd (cc (ok, err))
