use Rattle.std.proofs.Common.{◌++◌, ◌∙◌, ap, codes}
use Rattle.bundle_doc.specs.Bundle.{doc_id_of}
use Rattle.json_text.specs.JsonText.{digest_member, number_member}
use Rattle.json_text.proofs.PartFacts.{one_text}
use Rattle.json_reports.specs.ReportJson.{shown_current}
use Rattle.json_reports.proofs.accepted_json.push_shown_current.Goals as goal

pub returns : goal.returns
unfolding shown_current
returns c =
    one_text c.args.out.now.items (digest_member (codes ",\"current\":{\"document\":") (doc_id_of c.args.domain.now c.args.document.now)) _ _ _
    (c.in_ok-push_digest.ensures ∙ ap (λ d. c.args.out.now.items ++ digest_member (codes ",\"current\":{\"document\":") d) c.id.ensures)
    (one_text c.push_digest.new.out.items (number_member (codes ",\"sequence\":") c.args.document.now.rank) (codes "}") _ _
    (c.in_ok-push_optional.ensures ∙ ap (λ n. c.push_digest.new.out.items ++ number_member (codes ",\"sequence\":") n) c.rank.ensures)
    c.in_ok-extend_from_slice.ensures.items)
