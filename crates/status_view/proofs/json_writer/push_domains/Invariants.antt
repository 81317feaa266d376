use Rattle.std.proofs.Common.{◌≡◌, ◌++◌, drop, false}
use Rattle.json_text.specs.JsonText.{parted_texts}
use Rattle.status_view.specs.StatusJson.{domain_json}
use Rattle.status_view.proofs.json_writer.push_domains.Given as goal

abbrev pub invariant-loop-domain : goal.invariant-loop-domain
invariant-loop-domain l =
    l.out.items ++ parted_texts domain_json l.later (drop l.domain-index l.domains) ≡ l.initial.out.items ++ parted_texts domain_json false l.domains
