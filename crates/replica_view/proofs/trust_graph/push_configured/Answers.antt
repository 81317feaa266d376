use Rattle.std.proofs.Common.{ap, drop, option_copied, subst, ◌∙◌}
use Rattle.fed_config.specs.Configuration.{Configuration}
use Rattle.replica_view.specs.TrustGraph.{IsPassedSeed, ShowsConfigured}
use Rattle.replica_view.specs.Inside.MadeLines.{AddsLinesFor}
use Rattle.replica_view.proofs.MadeLineFacts.{lines_pass, lines_more}
use Rattle.replica_view.proofs.GraphFacts.{drop_next, slice_lines_all}
use Rattle.replica_view.proofs.VoucherFacts.{document_passed, document_shown}
use Rattle.replica_view.proofs.trust_graph.push_configured.Goals as goal

pub loop-seed-preserved-then-is_seed_passed : goal.loop-seed-preserved-then-is_seed_passed
loop-seed-preserved-then-is_seed_passed g c =
    let seeds = c.seeds-seed-items.result.now in
    lines_pass _ _ seeds (drop c.loop-seed.seed-index seeds) _ c.seed-item.result
    c.args.lines.now.items c.loop-seed.lines.items
    (drop_next seeds c.loop-seed.seed-index c.seed-item.result c.loop-seed-test.true c.seed-item.is) c.loop-seed.invariant
    (document_passed (g.C.Closure.state c.args.closure.now).meaning (option_copied c.args.chosen) c.args.vouchers.now c.requires
    c.is_seed_passed.result _ _ c.is_seed_passed.ensures c.if-is_seed_passed.true)

pub loop-seed-preserved : goal.loop-seed-preserved
loop-seed-preserved g c =
    let seeds = c.seeds-seed-items.result.now in
    lines_more _ _ seeds (drop c.loop-seed.seed-index seeds) _ c.seed-item.result
    c.args.lines.now.items c.loop-seed.lines.items
    (drop_next seeds c.loop-seed.seed-index c.seed-item.result c.loop-seed-test.true c.seed-item.is) c.loop-seed.invariant
    c.push_configured_line.new.lines.items
    (document_shown (g.C.Closure.state c.args.closure.now).meaning (option_copied c.args.chosen) c.args.vouchers.now c.requires
    c.is_seed_passed.result _ _ c.is_seed_passed.ensures c.if-is_seed_passed.false)
    c.in_ok-push_configured_line.ensures

pub returns : goal.returns
returns g c =
    subst (λ seeds. AddsLinesFor (IsPassedSeed (g.C.Closure.state c.args.closure.now).meaning (option_copied c.args.chosen)) ShowsConfigured seeds
    c.args.lines.now.items c.loop-seed.lines.items)
    (c.seeds-seed-items.ensures ∙ ap (λ (k : Configuration). k.seeds) c.config.ensures.config)
    (slice_lines_all (IsPassedSeed (g.C.Closure.state c.args.closure.now).meaning (option_copied c.args.chosen)) ShowsConfigured
    c.seeds-seed-items.result.now c.loop-seed.seed-index
    c.args.lines.now.items c.loop-seed.lines.items c.loop-seed-test.false c.loop-seed.invariant)
