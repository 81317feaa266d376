use Rattle.std.proofs.Common.{◌≡◌, ◌∙◌, ◌<◌, Some, length, subst, sym, ap, arith}
use Rattle.std.specs.List.{slice_get, Contains}
use Rattle.std.proofs.lemmas.List.{length-map}
use Rattle.poll_log.specs.Polling.{IsLog, polled_domains}
use Rattle.poll_log.specs.Inside.Statuses.{kept_status}
use Rattle.poll_log.proofs.PollFacts.{standing_in-held, standing_in-none, within_log}
use Rattle.poll_log.proofs.log.PollLog.status_of.Goals as goal

pub returns-in-Some : goal.returns-in-Some
returns-in-Some c =
    let same : c.as_bytes.result.now ≡ c.args.domain.now = c.as_bytes.ensures.value ∙ c.as_str.ensures.text in
    let at : slice_get (polled_domains c.args.self.now) c.in-Some.place ≡ Some c.args.domain.now = c.in-Some.ensures.place ∙ ap Some same in
    let is : IsLog c.args.self.now = subst IsLog c.self.view_is c.self.invariant in
    let size = ap length c.self.view_is in
    let within : c.in-Some.place < length c.self.inside.statuses.items =
    omega (
      arith,
      size,
      length-map c.self.inside.statuses.items kept_status,
      within_log c.args.self.now c.in-Some.place c.args.domain.now at,
    ) in
    sym (standing_in-held c.self.inside.statuses.items c.args.self.now c.args.domain.now c.in-Some.place
    c.index.result.now c.self.view_is is at c.index.ensures within)

pub returns-in-None : goal.returns-in-None
returns-in-None c =
    let same : c.as_bytes.result.now ≡ c.args.domain.now = c.as_bytes.ensures.value ∙ c.as_str.ensures.text in
    sym (standing_in-none c.args.self.now c.args.domain.now (λ has. c.in-None.ensures.place (subst (Contains (polled_domains c.args.self.now)) (sym same) has)))
