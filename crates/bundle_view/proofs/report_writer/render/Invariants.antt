use Rattle.std.proofs.Common.{take}
use Rattle.bundle_view.specs.Inside.Sections.{HasSections}
use Rattle.bundle_view.proofs.report_writer.render.Given as goal

abbrev pub invariant-loop-domain : goal.invariant-loop-domain
invariant-loop-domain g l = HasSections (g.C.Closure.state l.closure).meaning (take l.domain-index l.domain-items) l.out.items
