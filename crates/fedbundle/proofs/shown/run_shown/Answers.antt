use Rattle.std.proofs.Common.{refl}
use Rattle.fedbundle.proofs.ShownCommandFacts.{config_shown, named_as, other_named}
use Rattle.fedbundle.proofs.shown.run_shown.Goals as goal

pub returns-in-Config : goal.returns-in-Config
returns-in-Config g c = named_as _ _ _ _ _ _ c.in-Config.is (config_shown _ _ _ _ _ _ c.config.ensures.config c.run_config.ensures, (refl, refl))

pub returns-in-Diff : goal.returns-in-Diff
returns-in-Diff g c = named_as _ _ _ _ _ _ c.in-Diff.is (c.diff.ensures, (refl, refl))

pub returns-in-Migrate : goal.returns-in-Migrate
returns-in-Migrate g c = named_as _ _ _ _ _ _ c.in-Migrate.is c.migrate.ensures

pub returns-in-Reseed : goal.returns-in-Reseed
returns-in-Reseed g c = named_as _ _ _ _ _ _ c.in-Reseed.is (c.reseed_of.ensures, (refl, refl))

pub returns-in_default : goal.returns-in_default
returns-in_default g c =
    other_named _ _ _ _ _ c.in_default.not-Config c.in_default.not-Diff c.in_default.not-Migrate c.in_default.not-Reseed c.show_alone.ensures (refl, refl)
