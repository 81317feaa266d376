use Rattle.std.proofs.lemmas.Option.{IfSome_then}
use Rattle.command_line.proofs.NarrowFacts.{first_word}
use Rattle.command_line.proofs.words.first_name.Goals as goal

pub returns-in-len1-up : goal.returns-in-len1-up
returns-in-len1-up c =
    IfSome_then c.command_of.result c.command_of.ensures.text
    (λ name text. first_word (λ w. w.now) c.args.words.now _ c.in-len1-up.len_at_least text)
