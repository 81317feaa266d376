use Rattle.std.proofs.Common.{drop, option_copied, subst}
use Rattle.std.proofs.lemmas.Bool.{both_ways}
use Rattle.fed_config.specs.Configuration.{AreDomains}
use Rattle.replica_view.specs.TrustGraph.{IsPassedDomain, ShowsCurrent}
use Rattle.replica_view.proofs.MadeLineFacts.{lines_pass, lines_more}
use Rattle.replica_view.proofs.GraphFacts.{drop_next, slice_lines_all}
use Rattle.replica_view.proofs.trust_graph.push_currents.Goals as goal

pub loop-domain-preserved-then-is_domain_passed : goal.loop-domain-preserved-then-is_domain_passed
loop-domain-preserved-then-is_domain_passed g c =
    let domains = c.domains-domain-items.result.now in
    lines_pass _ _ domains (drop c.loop-domain.domain-index domains) _ c.domain-item.result
    c.args.lines.now.items c.loop-domain.lines.items
    (drop_next domains c.loop-domain.domain-index c.domain-item.result c.loop-domain-test.true c.domain-item.is) c.loop-domain.invariant
    (c.is_domain_passed.ensures.0 c.if-is_domain_passed.true)

pub loop-domain-preserved : goal.loop-domain-preserved
loop-domain-preserved g c =
    let domains = c.domains-domain-items.result.now in
    lines_more _ _ domains (drop c.loop-domain.domain-index domains) _ c.domain-item.result
    c.args.lines.now.items c.loop-domain.lines.items
    (drop_next domains c.loop-domain.domain-index c.domain-item.result c.loop-domain-test.true c.domain-item.is) c.loop-domain.invariant
    c.push_current.new.lines.items
    (λ passed. both_ways c.is_domain_passed.result c.if-is_domain_passed.false (c.is_domain_passed.ensures.1 passed))
    c.in_ok-push_current.ensures

pub returns : goal.returns
returns g c =
    let m = (g.C.Closure.state c.args.closure.now).meaning in
    record {
      domains = c.domains-domain-items.result.now;
      are_domains = subst (λ config. AreDomains config c.domains-domain-items.result.now) c.config.ensures.config
          c.domains-domain-items.ensures.all;
      lines = slice_lines_all (IsPassedDomain m (option_copied c.args.chosen)) (ShowsCurrent m) c.domains-domain-items.result.now
          c.loop-domain.domain-index c.args.lines.now.items c.loop-domain.lines.items c.loop-domain-test.false c.loop-domain.invariant;
    }
