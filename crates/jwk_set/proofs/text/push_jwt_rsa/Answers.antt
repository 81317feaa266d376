use Rattle.std.proofs.Common.{ap, append_assoc, string_bytes, ◌++◌, ◌∙◌, ◌≡◌}
use Rattle.jwk_set.specs.Written.{jwt_rsa_text}
use Rattle.jwk_set.proofs.TreeFacts.{jwt_rsa-written}
use Rattle.jwk_set.proofs.text.push_jwt_rsa.Goals as goal

pub returns : goal.returns
returns c =
    let written : string_bytes c.push_str-5.new.self ≡ string_bytes c.args.out.now ++ jwt_rsa_text c.args.kid.now c.args.n.now c.args.e.now =
    rw (
      c.in_ok-push_str-5.ensures.bytes,
      c.in_ok-push_str-4.ensures.bytes,
      c.in_ok-push_str-3.ensures.bytes,
      c.in_ok-push_string.ensures,
      c.in_ok-push_str-2.ensures.bytes,
      c.in_ok-push_str.ensures.bytes,
      c.as_str.ensures.text,
      c.as_str-2.ensures.text,
      c.as_str-3.ensures.text,
    ) (simp (append_assoc))
    in
    written ∙ ap (λ t. string_bytes c.args.out.now ++ t)
    (jwt_rsa-written c.args.kid.now c.args.n.now c.args.e.now
    c.as_str-3.ensures.form c.as_str.ensures.form)
