use Rattle.std.proofs.Common.{◌∙◌, sym}
use Rattle.health_pages.proofs.NameFacts.{name_is_text}
use Rattle.health_pages.proofs.asked_page.graph_of.Goals as goal

pub returns-in-Err : goal.returns-in-Err
returns-in-Err c =
    absurd (c.in-Err.ensures.cases.0 (name_is_text c.args.name.now (sym c.is_name.ensures ∙ c.if-not-is_name.false)))
