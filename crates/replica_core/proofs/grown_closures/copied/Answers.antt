use Rattle.std.proofs.Common.{◌∙◌, ap}
use Rattle.receipt_core.specs.Acceptance.{Meaning}
use Rattle.closure_core.specs.Changes.{empty_of}
use Rattle.replica_core.proofs.GrownFacts.{copy-same}
use Rattle.replica_core.proofs.grown_closures.copied.Goals as goal

pub returns : goal.returns
returns g c =
    let copy = (g.C.Closure.state c.in_ok-copy.copy).meaning in
    let m = (g.C.Closure.state c.args.closure.now).meaning in
    let fresh = c.in_ok-copy.ensures ∙ ap empty_of c.config.ensures.config in
    copy-same m copy (g.C.Closure.state c.grow.new.closure).meaning c.config.ensures.valid fresh (c.in_ok-grow.ensures (ap (λ (m : Meaning). m.config) fresh))
