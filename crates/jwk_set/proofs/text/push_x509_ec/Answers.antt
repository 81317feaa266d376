use Rattle.std.proofs.Common.{ap, append_assoc, codes, string_bytes, ◌++◌, ◌∙◌, ◌≡◌}
use Rattle.json.specs.Print.{quoted}
use Rattle.jwk_set.specs.Written.{x509_ec_text}
use Rattle.jwk_set.proofs.TreeFacts.{x509_ec-written}
use Rattle.jwk_set.proofs.text.push_x509_ec.Goals as goal

pub returns : goal.returns
returns c =
    let begun : string_bytes c.push_string.new.out ≡ string_bytes c.args.out.now ++ (codes "{\"crv\":" ++ quoted c.args.crv.now) =
    c.in_ok-push_string.ensures ∙ ap (λ t. string_bytes c.args.out.now ++ (codes "{\"crv\":" ++ quoted t)) c.as_str.ensures.text in
    let written : string_bytes c.push_str-6.new.self ≡ string_bytes c.args.out.now ++ x509_ec_text c.args.crv.now c.args.x.now c.args.y.now c.args.der.now =
    rw (
      c.in_ok-push_str-6.ensures.bytes,
      c.in_ok-push_str-5.ensures.bytes,
      c.in_ok-push_str-4.ensures.bytes,
      c.in_ok-push_base64.ensures.text,
      c.in_ok-push_str-3.ensures.bytes,
      c.in_ok-push_str-2.ensures.bytes,
      c.in_ok-push_str.ensures.bytes,
      begun,
      c.as_str-2.ensures.text,
      c.as_str-3.ensures.text,
    ) (simp (append_assoc))
    in
    written ∙ ap (λ t. string_bytes c.args.out.now ++ t)
    (x509_ec-written c.args.crv.now c.args.x.now c.args.y.now c.args.der.now
    c.as_str-2.ensures.form c.as_str-3.ensures.form c.in_ok-push_base64.ensures.form)
