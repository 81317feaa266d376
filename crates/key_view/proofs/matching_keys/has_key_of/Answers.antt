use Rattle.std.proofs.Common.{◌∙◌}
use Rattle.key_view.proofs.TrustedFacts.{key_read}
use Rattle.key_view.proofs.matching_keys.has_key_of.Goals as goal

pub returns-in-Some : goal.returns-in-Some
returns-in-Some c = λ parts are.
    c.contains.ensures ∙ key_read c.args.public_keys.now c.args.der.now c.in-Some.digest c.in-Some.ensures parts are
