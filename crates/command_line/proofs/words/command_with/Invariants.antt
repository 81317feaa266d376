use Rattle.std.proofs.Common.{◌≡◌, drop, fold}
use Rattle.clap.specs.Words.{app_of}
use Rattle.command_line.specs.Words.{bare_app, with_name}
use Rattle.command_line.proofs.words.command_with.Given as goal

abbrev pub invariant-names : goal.invariant-names
invariant-names l = fold with_name (app_of l.command) (drop l.name-index l.names) ≡ fold with_name bare_app l.names
