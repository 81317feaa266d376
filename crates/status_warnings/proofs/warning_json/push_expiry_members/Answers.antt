use Rattle.std.proofs.Common.{◌++◌, ◌∙◌, ap, codes, rules}
use Rattle.std.specs.Int.{w64}
use Rattle.std.proofs.lemmas.Int.{to_z-of_z}
use Rattle.std.specs.Fmt.{signed_decimal}
use Rattle.hex.specs.Hex.{encode_lower}
use Rattle.status_warnings.specs.WarningJson.{domain_member}
use Rattle.status_view.proofs.PieceFacts.{two}
use Rattle.status_warnings.proofs.warning_json.push_expiry_members.Goals as goal

pub returns : goal.returns
returns c =
    two c.args.out.now.items
    (domain_member c.args.domain.now) _ _ _
    c.in_ok-push_domain_member.ensures
    (two c.push_domain_member.new.out.items
    (codes ",\"key\":\"") _ _ _
    c.in_ok-extend_from_slice.ensures.items
    (two c.extend_from_slice.new.self.items
    (encode_lower c.args.key.now.0) _ _ _
    c.in_ok-push_digits.ensures
    (two c.push_digits.new.out.items
    (codes "\",\"not_after\":")
    (signed_decimal c.args.at) _ _
    c.in_ok-extend_from_slice-2.ensures.items
    (c.in_ok-push_second.ensures
    ∙ ap (λ z. c.extend_from_slice-2.new.self.items ++ signed_decimal z) (to_z-of_z w64 c.args.at (search rules))))))
