use Rattle.std.proofs.Common.{◌≡◌, true, take}
use Rattle.std.specs.List.{list_all}
use Rattle.clap.specs.Words.{found_of, rows_of}
use Rattle.command_line.specs.Words.{is_settled_in}
use Rattle.command_line.proofs.words.are_settled.Given as goal

abbrev pub invariant-options : goal.invariant-options
invariant-options l = list_all (is_settled_in l.fn.place (rows_of (found_of l.matches))) (take l.taken-index l.options) ≡ true
