use Rattle.std.proofs.Common.{codes}
use Rattle.hex.specs.Hex.{encode_lower}
use Rattle.status_warnings.specs.WarningJson.{domain_member}
use Rattle.status_view.proofs.PieceFacts.{two}
use Rattle.status_warnings.proofs.warning_json.push_key_members.Goals as goal

pub returns : goal.returns
returns c =
    two c.args.out.now.items
    (domain_member c.args.domain.now) _ _ _
    c.in_ok-push_domain_member.ensures
    (two c.push_domain_member.new.out.items
    (codes ",\"key\":\"") _ _ _
    c.in_ok-extend_from_slice.ensures.items
    (two c.extend_from_slice.new.self.items
    (encode_lower c.args.key.now.0)
    (codes "\"") _ _
    c.in_ok-push_digits.ensures
    c.in_ok-extend_from_slice-2.ensures.items))
