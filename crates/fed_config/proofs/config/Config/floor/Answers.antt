use Rattle.std.proofs.Common.{◌≡◌, ap, subst, ◌∙◌}
use Rattle.fed_config.specs.Configuration.{IsSequenceOf}
use Rattle.fed_config.proofs.config.Config.floor.Goals as goal

pub returns : goal.returns
returns c =
    let lent : c.as_slice.result.now ≡ c.args.self.now.floors = c.as_slice.ensures.value ∙ ap (λ v. v.floors) c.self.view_is in
    subst (λ l. IsSequenceOf l c.args.domain.now c.sequence_of.result) lent c.sequence_of.ensures
