use Rattle.std.proofs.Common.{◌≡◌, ◌∙◌, map, subst, sym, ap, rules}
use Rattle.std.specs.Ordering.{nat_cmp}
use Rattle.std.specs.Cmp.Lexicographic.{slice_cmp}
use Rattle.std.proofs.lemmas.Fn.{always_returns_same}
use Rattle.poll_log.specs.Polling.{IsLog}
use Rattle.poll_log.specs.Inside.Statuses.{kept_status, IsPlaceOf}
use Rattle.poll_log.proofs.PollFacts.{names_of, standing_found}
use Rattle.poll_log.proofs.log.PollLog.place_of.Goals as goal

pub returns-clause-place : goal.returns-clause-place
returns-clause-place c =
    let log_is : map kept_status c.deref.result.now ≡ c.args.self.now = ap (map kept_status) c.deref.ensures.value ∙ c.self.view_is in
    let is : IsLog c.args.self.now = subst IsLog c.self.view_is c.self.invariant in
    subst (IsPlaceOf c.args.self.now c.args.domain.now) (sym c.ok.ensures.value)
    (standing_found c.deref.result.now c.args.self.now c.args.domain.now c.binary_search_by.result log_is is c.binary_search_by.ensures.bound
    (c.binary_search_by.ensures.position (λ s. slice_cmp nat_cmp s.domain c.args.domain.now) (always_returns_same _ _ _ (λ a r q k. search rules))))

pub returns-clause-names : goal.returns-clause-names
returns-clause-names c = names_of c.args.self.now (subst IsLog c.self.view_is c.self.invariant)
