use Rattle.std.proofs.Common.{◌∙◌, ap}
use Rattle.closure_core.specs.Changes.{empty_of, union_of}
use Rattle.fedbundle.proofs.DistrustFacts.{copied}
use Rattle.fedbundle.proofs.distrust.copy_of.Goals as goal

pub returns-in-Ok : goal.returns-in-Ok
returns-in-Ok g c =
    let held = (g.C.Closure.state c.args.closure.now).meaning in
    c.in-Ok.ensures.merged.meaning ∙ ap (λ m. union_of m held) (c.in_ok-copy.ensures ∙ ap empty_of c.config.ensures.config)
    ∙ copied c.merges.ensures.order held c.config.ensures.valid
