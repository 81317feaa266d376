use Rattle.std.proofs.Common.{codes, ap, sym}
use Rattle.std.specs.Fmt.{digits}
use Rattle.health_pages.specs.Responses.{response_text}
use Rattle.health_pages.specs.declared.response.ContentType.TheVariants.{Text}
use Rattle.health_pages.specs.declared.response.ResponseStatus.TheVariants.{Unavailable}
use Rattle.health_pages.proofs.fixed_responses.memory_response.Goals as goal

pub returns-then-is_head : goal.returns-then-is_head
unfolding digits
returns-then-is_head c = ap (response_text Unavailable Text (codes "out of memory\n")) (sym c.if-is_head.true)

pub returns-else-is_head : goal.returns-else-is_head
unfolding digits
returns-else-is_head c = ap (response_text Unavailable Text (codes "out of memory\n")) (sym c.if-is_head.false)
