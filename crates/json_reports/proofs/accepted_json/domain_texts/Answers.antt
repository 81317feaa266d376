use Rattle.json_text.proofs.PartFacts.{zip_end, zip_next}
use Rattle.json_reports.specs.ReportJson.{IsDomainJson}
use Rattle.json_reports.proofs.accepted_json.domain_texts.Goals as goal

pub loop-domain-preserved : goal.loop-domain-preserved
loop-domain-preserved g c =
    zip_next (IsDomainJson (g.C.Closure.state c.args.closure.now).meaning) c.args.domains.now c.loop-domain.domain-index c.domain-item.result
    c.loop-domain.texts.items _ c.push.new.self.items c.loop-domain-test.true c.domain-item.is c.loop-domain.invariant
    c.in_ok-domain_text.ensures c.in_ok-push.ensures.items

pub returns : goal.returns
returns g c =
    zip_end (IsDomainJson (g.C.Closure.state c.args.closure.now).meaning) c.args.domains.now c.loop-domain.domain-index c.loop-domain.texts.items
    c.loop-domain-test.false c.loop-domain.invariant
