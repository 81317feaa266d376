-- No flag is raised at first.
use Rattle.std.proofs.Common.{◌∙◌}
use Rattle.bundle_view.proofs.SearchFacts.{visited_none}
use Rattle.bundle_view.proofs.steps.search.Goals as goal

pub follow_all-requires-clause-visits : goal.follow_all-requires-clause-visits
follow_all-requires-clause-visits c = visited_none _ _ _ (c.as_mut_slice.ensures.value ∙ c.in_ok-visited.ensures) c.requires.empty
