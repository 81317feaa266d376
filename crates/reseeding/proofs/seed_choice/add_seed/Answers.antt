use Rattle.std.proofs.Common.{rules, option_copied}
use Rattle.reseeding.proofs.DomainsFacts.{adds_none, adds_one}
use Rattle.reseeding.proofs.seed_choice.add_seed.Goals as goal

pub returns-in_default : goal.returns-in_default
returns-in_default g c = adds_none _ _ _ (option_copied c.current.result) (search rules) c.current.ensures

pub returns : goal.returns
returns g c = adds_one _ _ _ _ (option_copied c.current.result) c.in-Some.document.now (search rules) c.current.ensures (search rules)
