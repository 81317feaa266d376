use Rattle.std.proofs.Common.{◌++◌, ◌∙◌, ap, codes, rules}
use Rattle.std.specs.Int.{w64}
use Rattle.std.proofs.lemmas.Int.{to_z-of_z}
use Rattle.std.specs.Fmt.{signed_decimal}
use Rattle.status_warnings.specs.WarningMetrics.{key_labels}
use Rattle.status_view.proofs.PieceFacts.{two}
use Rattle.status_warnings.proofs.warning_metrics.push_certificate.Goals as goal

pub returns : goal.returns
returns c =
    two c.args.out.now.items
    (codes "fedbundle_certificate_not_after_timestamp_seconds{") _ _ _
    c.in_ok-extend_from_slice.ensures.items
    (two c.extend_from_slice.new.self.items
    (key_labels c.args.certificate.now.domain c.args.certificate.now.key.0) _ _ _
    c.in_ok-push_key_labels.ensures
    (two c.push_key_labels.new.out.items
    (codes "} ") _ _ _
    c.in_ok-extend_from_slice-2.ensures.items
    (two c.extend_from_slice-2.new.self.items
    (signed_decimal c.args.certificate.now.not_after)
    (codes "\n") _ _
    (c.in_ok-push_second.ensures
    ∙ ap (λ z. c.extend_from_slice-2.new.self.items ++ signed_decimal z) (to_z-of_z w64 c.args.certificate.now.not_after (search rules)))
    c.in_ok-extend_from_slice-3.ensures.items)))
