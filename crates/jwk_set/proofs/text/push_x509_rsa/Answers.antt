use Rattle.std.proofs.Common.{ap, append_assoc, string_bytes, ◌++◌, ◌∙◌, ◌≡◌}
use Rattle.jwk_set.specs.Written.{x509_rsa_text}
use Rattle.jwk_set.proofs.TreeFacts.{x509_rsa-written}
use Rattle.jwk_set.proofs.text.push_x509_rsa.Goals as goal

pub returns : goal.returns
returns c =
    let written : string_bytes c.push_str-6.new.self ≡ string_bytes c.args.out.now ++ x509_rsa_text c.args.n.now c.args.e.now c.args.der.now =
    rw (
      c.in_ok-push_str-6.ensures.bytes,
      c.in_ok-push_base64.ensures.text,
      c.in_ok-push_str-5.ensures.bytes,
      c.in_ok-push_str-4.ensures.bytes,
      c.in_ok-push_str-3.ensures.bytes,
      c.in_ok-push_str-2.ensures.bytes,
      c.in_ok-push_str.ensures.bytes,
      c.as_str-2.ensures.text,
      c.as_str.ensures.text,
    ) (simp (append_assoc))
    in
    written ∙ ap (λ t. string_bytes c.args.out.now ++ t)
    (x509_rsa-written c.args.n.now c.args.e.now c.args.der.now
    c.as_str-2.ensures.form c.as_str.ensures.form c.in_ok-push_base64.ensures.form)
