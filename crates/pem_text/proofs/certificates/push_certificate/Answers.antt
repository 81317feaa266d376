use Rattle.std.proofs.Common.{◌++◌, ◌∙◌, ap, codes}
use Rattle.base64.specs.Engines.{standard}
use Rattle.base64.specs.GeneralPurpose.{encode_of}
use Rattle.pem_text.specs.Pem.{wrapped}
use Rattle.pem_text.proofs.PemFacts.{three_pieces}
use Rattle.pem_text.proofs.certificates.push_certificate.Goals as goal

pub returns : goal.returns
returns c =
    three_pieces c.args.out.now.items (codes "-----BEGIN CERTIFICATE-----\n") (wrapped (encode_of standard c.args.der.now))
    (codes "-----END CERTIFICATE-----\n") _ _ _ c.in_ok-extend_from_slice.ensures.items
    (c.in_ok-push_wrapped.ensures
    ∙ ap (λ t. c.extend_from_slice.new.self.items ++ wrapped t) (c.as_str.ensures.value ∙ c.in_ok-text.ensures.text))
    c.in_ok-extend_from_slice-2.ensures.items
