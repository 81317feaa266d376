use Rattle.std.proofs.Common.{◌≡◌, ◌++◌, drop, map, option_map}
use Rattle.clap.specs.Words.{found_of, rows_of}
use Rattle.command_line.specs.Words.{given_taken}
use Rattle.command_line.proofs.words.texts_of.Given as goal

abbrev pub invariant-options : goal.invariant-options
invariant-options l = map (option_map (λ t. t.now)) l.texts.items ++ map (given_taken (rows_of (found_of l.matches)))
    (drop l.taken-index l.options) ≡ map (given_taken (rows_of (found_of l.matches))) l.options
