use Rattle.std.proofs.Common.{◌++◌, ◌∙◌, ap, codes}
use Rattle.status_warnings.specs.WarningLines.{kind_name}
use Rattle.status_warnings.specs.WarningJson.{warning_members}
use Rattle.status_view.proofs.PieceFacts.{two}
use Rattle.status_warnings.proofs.warning_json.push_warning.Goals as goal

pub returns : goal.returns
returns c =
    two c.args.out.now.items
    (codes "{\"kind\":\"") _ _ _
    c.in_ok-extend_from_slice.ensures.items
    (two c.extend_from_slice.new.self.items
    (kind_name c.args.warning.now) _ _ _
    (c.in_ok-extend_from_slice-2.ensures.items
    ∙ ap (λ t. c.extend_from_slice.new.self.items ++ t) (c.as_bytes.ensures.value ∙ c.kind_name.ensures))
    (two c.extend_from_slice-2.new.self.items
    (codes "\"") _ _ _
    c.in_ok-extend_from_slice-3.ensures.items
    (two c.extend_from_slice-3.new.self.items
    (warning_members c.args.warning.now)
    (codes "}") _ _
    c.in_ok-push_members.ensures
    c.in_ok-extend_from_slice-4.ensures.items)))
