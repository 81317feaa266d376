use Rattle.std.proofs.Common.{ap, append_assoc, codes, string_bytes, ◌++◌, ◌∙◌, ◌≡◌}
use Rattle.json.specs.Print.{quoted}
use Rattle.jwk_set.specs.Written.{jwt_ec_text}
use Rattle.jwk_set.proofs.TreeFacts.{jwt_ec-written}
use Rattle.jwk_set.proofs.text.push_jwt_ec.Goals as goal

pub returns : goal.returns
returns c =
    let begun : string_bytes c.push_string.new.out ≡ string_bytes c.args.out.now ++ (codes "{\"crv\":" ++ quoted c.args.crv.now) =
    c.in_ok-push_string.ensures ∙ ap (λ t. string_bytes c.args.out.now ++ (codes "{\"crv\":" ++ quoted t)) c.as_str.ensures.text in
    let named : string_bytes c.push_string-2.new.out ≡ string_bytes c.push_string.new.out ++ (codes ",\"kid\":" ++ quoted c.args.kid.now) =
    c.in_ok-push_string-2.ensures ∙ ap (λ t. string_bytes c.push_string.new.out ++ (codes ",\"kid\":" ++ quoted t)) c.as_str-2.ensures.text in
    let written : string_bytes c.push_str-5.new.self ≡ string_bytes c.args.out.now ++ jwt_ec_text c.args.kid.now c.args.crv.now c.args.x.now c.args.y.now =
    rw (
      c.in_ok-push_str-5.ensures.bytes,
      c.in_ok-push_str-4.ensures.bytes,
      c.in_ok-push_str-3.ensures.bytes,
      c.in_ok-push_str-2.ensures.bytes,
      c.in_ok-push_str.ensures.bytes,
      named,
      begun,
      c.as_str-3.ensures.text,
      c.as_str-4.ensures.text,
    ) (simp (append_assoc))
    in
    written ∙ ap (λ t. string_bytes c.args.out.now ++ t)
    (jwt_ec-written c.args.kid.now c.args.crv.now c.args.x.now c.args.y.now
    c.as_str-3.ensures.form c.as_str-4.ensures.form)
