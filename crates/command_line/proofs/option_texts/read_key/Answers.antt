use Rattle.std.proofs.Common.{ap, ◌∙◌}
use Rattle.std.proofs.lemmas.Bool.{both_ways}
use Rattle.hex.specs.Hex.{encode_lower}
use Rattle.command_line.proofs.KeyTextFacts.{decoded_key}
use Rattle.command_line.proofs.option_texts.read_key.Goals as goal

-- the digits were of another case
pub returns-in-Ok-2-clause-none : goal.returns-in-Ok-2-clause-none
returns-in-Ok-2-clause-none c = λ bytes size octets is.
    let same = (decoded_key c.args.text.now c.decode_to_slice.new.out bytes c.decode_to_slice.result c.decode_to_slice.ensures.value size octets
    is).1 in
    both_ways c.is_key_text.result c.if-is_key_text.false
    (c.is_key_text.ensures.1 (ap encode_lower same ∙ is))

-- they were no digits of 32 bytes
pub returns-in-Err-clause-none : goal.returns-in-Err-clause-none
returns-in-Err-clause-none c = λ bytes size octets is.
    let ok = (decoded_key c.args.text.now c.decode_to_slice.new.out bytes c.decode_to_slice.result c.decode_to_slice.ensures.value size octets
    is).0 in
    let err = c.in-Err.is in
    absurd (cc (ok, err))
