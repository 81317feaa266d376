use Rattle.std.proofs.Common.{◌++◌, ◌∙◌, ap, codes, false}
use Rattle.status_view.specs.Status.{has_warning}
use Rattle.json_text.specs.JsonText.{parted_texts, true_or_false}
use Rattle.status_view.specs.StatusJson.{counts_json, domain_json, keyless_json}
use Rattle.status_view.proofs.PieceFacts.{two}
use Rattle.status_view.proofs.json_writer.push_status_members.Goals as goal

pub returns : goal.returns
returns c =
    two c.args.out.now.items
    (counts_json c.args.status.now) _ _ _ c.in_ok-push_counts.ensures
    (two c.push_counts.new.out.items
    (codes ",\"domains\":[") _ _ _ c.in_ok-extend_from_slice.ensures.items
    (two c.extend_from_slice.new.self.items
    (parted_texts domain_json false c.args.status.now.domains.items) _ _ _
    (c.in_ok-push_domains.ensures
    ∙ ap (λ t. c.extend_from_slice.new.self.items ++ t) (ap (parted_texts domain_json false) c.as_slice.ensures.value))
    (two c.push_domains.new.out.items
    (codes "],\"keyless_seeds\":[") _ _ _ c.in_ok-extend_from_slice-2.ensures.items
    (two c.extend_from_slice-2.new.self.items
    (parted_texts keyless_json false c.args.status.now.keyless_seeds.items) _ _ _
    (c.in_ok-push_keyless.ensures
    ∙ ap (λ t. c.extend_from_slice-2.new.self.items ++ t) (ap (parted_texts keyless_json false) c.as_slice-2.ensures.value))
    (two c.push_keyless.new.out.items (codes "],\"warning\":")
    (true_or_false (has_warning c.args.status.now)) _ _ c.in_ok-extend_from_slice-3.ensures.items
    (c.in_ok-push_bool.ensures
    ∙ ap (λ t. c.extend_from_slice-3.new.self.items ++ t) (ap true_or_false c.has_warning.ensures)))))))
