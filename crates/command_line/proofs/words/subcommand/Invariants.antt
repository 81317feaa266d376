use Rattle.std.proofs.Common.{◌≡◌, drop, fold}
use Rattle.clap.specs.Words.{app_of}
use Rattle.command_line.specs.Words.{leaf, with_option}
use Rattle.command_line.proofs.words.subcommand.Given as goal

abbrev pub invariant-options : goal.invariant-options
invariant-options l = fold with_option (app_of l.command) (drop l.taken-index l.taken-items) ≡ leaf l.fn.name
