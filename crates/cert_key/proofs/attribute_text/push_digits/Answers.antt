use Rattle.std.proofs.lemmas.Result.{on_ok_weaker}
use Rattle.cert_key.proofs.DigitFacts.{digits_after}
use Rattle.cert_key.proofs.attribute_text.push_digits.Goals as goal

pub returns : goal.returns
returns c =
    on_ok_weaker c.push_ascii-3.result
    (λ last. digits_after _ _ _ _ _ _ _ c.args.byte c.in_ok-push_ascii.ensures c.in_ok-push_ascii-2.ensures last
    c.digit.ensures.digit c.digit-2.ensures.digit)
    c.push_ascii-3.ensures
