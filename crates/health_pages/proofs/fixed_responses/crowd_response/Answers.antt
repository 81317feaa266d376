use Rattle.std.proofs.Common.{refl}
use Rattle.std.specs.Fmt.{digits}
use Rattle.health_pages.proofs.fixed_responses.crowd_response.Goals as goal

pub returns : goal.returns
unfolding digits
returns c = refl
