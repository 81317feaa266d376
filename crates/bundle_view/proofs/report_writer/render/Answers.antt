use Rattle.std.proofs.Common.{sym, subst}
use Rattle.std.proofs.lemmas.List.{take_all}
use Rattle.fed_config.specs.Configuration.{AreDomains}
use Rattle.bundle_view.specs.Inside.Sections.{HasSections}
use Rattle.bundle_view.proofs.GroupFacts.{taken_more}
use Rattle.bundle_view.proofs.ReportFacts.{sections_none, sections_more, sections_all}
use Rattle.bundle_view.proofs.report_writer.render.Goals as goal

pub loop-domain-init : goal.loop-domain-init
loop-domain-init g c = sections_none _ c.new-out.result.items _ c.new-out.ensures.items c.in_ok-push_head.ensures

pub loop-domain-preserved : goal.loop-domain-preserved
loop-domain-preserved g c =
    subst (λ domains. HasSections (g.C.Closure.state c.args.closure.now).meaning domains c.push_section.new.out.items)
    (sym (taken_more c.domains-domain-items.result.now c.loop-domain.domain-index c.domain-item.result c.loop-domain-test.true c.domain-item.is))
    (sections_more _ _ c.domain-item.result _ _ c.loop-domain.invariant c.in_ok-push_section.ensures)

pub returns : goal.returns
returns g c =
    sections_all _ c.domains-domain-items.result.now _
    (subst (λ config. AreDomains config c.domains-domain-items.result.now) c.config.ensures.config
    c.domains-domain-items.ensures.all)
    (subst (λ domains. HasSections (g.C.Closure.state c.args.closure.now).meaning domains c.loop-domain.out.items)
    (take_all c.loop-domain.domain-index c.domains-domain-items.result.now c.loop-domain-test.false) c.loop-domain.invariant)
