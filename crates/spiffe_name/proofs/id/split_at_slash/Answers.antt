use Rattle.std.proofs.Common.{Some, None, lit<}
use Rattle.std.proofs.lemmas.Str.Pattern.{find_char}
use Rattle.spiffe_name.proofs.SlashFacts.{splits_here, splits_none}
use Rattle.spiffe_name.proofs.id.split_at_slash.Goals as goal

pub returns-in-Some : goal.returns-in-Some
returns-in-Some c =
    let found = find_char 47 c.args.text.now (Some c.in-Some.place) c.in-Some.ensures.cases (lit< tt) in
    rw (c.split_at.ensures.front, c.split_at.ensures.back) (splits_here _ _ found.0 found.1 found.2)

pub returns-in-None : goal.returns-in-None
returns-in-None c = splits_none _ (find_char 47 c.args.text.now None c.in-None.ensures.cases (lit< tt))
