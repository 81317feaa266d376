use Rattle.std.proofs.Common.{◌≡◌, drop, find}
use Rattle.std.specs.Str.{bytes_eq}
use Rattle.command_line.specs.Words.{name_text, named}
use Rattle.command_line.proofs.words.command_of.Given as goal

abbrev pub invariant-names : goal.invariant-names
invariant-names l = find (λ name. bytes_eq (name_text name) l.word) (drop l.name-index l.name-items) ≡ named l.word
