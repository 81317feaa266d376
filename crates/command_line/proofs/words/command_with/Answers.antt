use Rattle.std.proofs.Common.{rules, ap, fold, ◌∙◌}
use Rattle.clap.specs.Words.{App, app_of, with_subcommand}
use Rattle.command_line.specs.Words.{with_name}
use Rattle.command_line.proofs.WordsFacts.{fold_more, no_globals, plain_leaf}
use Rattle.command_line.proofs.words.command_with.Goals as goal

pub names-init : goal.names-init
names-init c = ap (λ (a : App). fold with_name a c.args.names.now) c.bare_command-command.ensures

pub names-preserved : goal.names-preserved
names-preserved c = fold_more with_name c.args.names.now c.names.name-index _ c.names-test.true
    (search rules) (app_of c.names.command) (app_of c.in_ok-command.command)
    (c.in_ok-command.ensures.shape
    (no_globals _ _ _ _ (ap (λ (a : App). a.top.is_plain) c.in_ok-subcommand.ensures.app ∙ plain_leaf _))
    ∙ ap (λ (a : App). with_subcommand (app_of c.names.command) a.top) c.in_ok-subcommand.ensures.app)
    ∙ c.names.invariant
