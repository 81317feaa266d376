use Rattle.std.proofs.Common.{◌∙◌, inl, sym}
use Rattle.std.specs.Prelude.{None}
use Rattle.replica_sync.specs.PullSessions.{due_have}
use Rattle.bucket_sums.proofs.QuietPullFacts.{begun_asks, begun_sound}
use Rattle.bucket_sums.proofs.QuietStepFacts.{first_none}
use Rattle.bucket_sums.proofs.quiet_pulling.QuietPulling.without_sums.Goals as goal

pub returns-clause-ok : goal.returns-clause-ok
returns-clause-ok g c =
    let m = (g.C.Closure.state c.args.closure.now).meaning in
    let begun = c.in_ok-new in (
      sym (begun_sound None begun.field-0 m begun.ensures.ok),
      (c.new-2.ensures.items, inl begun.ensures.ok),
    )

pub returns-clause-asks : goal.returns-clause-asks
returns-clause-asks g c =
    let m = (g.C.Closure.state c.args.closure.now).meaning in
    let begun = c.in_ok-new in
    first_none c.new-2.result.items (due_have begun.field-0) c.new-2.ensures.items ∙ begun_asks begun.field-0 m begun.ensures.ok
