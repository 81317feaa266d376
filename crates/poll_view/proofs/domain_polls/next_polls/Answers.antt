use Rattle.std.proofs.Common.{◌∙◌, List, ap, map, subst}
use Rattle.std.specs.List.{AllZip}
use Rattle.fed_config.specs.Configuration.{Configuration}
use Rattle.fed_config.specs.declared.relationship.Relationship.{Relationship}
use Rattle.json_text.proofs.PartFacts.{zip_end, zip_next}
use Rattle.poll_view.specs.NextPolls.{IsDomainPoll, PollView}
use Rattle.poll_view.proofs.NextPollFacts.{zip_mapped}
use Rattle.poll_view.proofs.domain_polls.next_polls.Goals as goal

pub loop-relationship-preserved : goal.loop-relationship-preserved
loop-relationship-preserved g c =
    zip_next
    (λ r p. IsDomainPoll (record { meaning = (g.C.Closure.state c.args.closure.now).meaning; log = c.args.log.now; now = c.args.now.nanosecond }) r.domain p)
    c.relationships-relationship-items.result.now c.loop-relationship.relationship-index c.relationship-item.result c.loop-relationship.polls.items _
    c.push.new.self.items c.loop-relationship-test.true c.relationship-item.is c.loop-relationship.invariant c.in_ok-domain_poll.ensures
    c.in_ok-push.ensures.items

pub returns : goal.returns
returns g c =
    let m = (g.C.Closure.state c.args.closure.now).meaning in
    let view : PollView = record { meaning = m; log = c.args.log.now; now = c.args.now.nanosecond } in
    let rs = c.relationships-relationship-items.result.now in
    let polls = c.loop-relationship.polls.items in
    subst (λ (all : List Relationship). AllZip (IsDomainPoll view) (map (λ (r : Relationship). r.domain) all) polls)
    (c.relationships-relationship-items.ensures ∙ ap (λ (k : Configuration). k.relationships) c.config.ensures.config)
    (zip_mapped (λ (r : Relationship). r.domain) (IsDomainPoll view) rs polls
    (zip_end (λ (r : Relationship) p. IsDomainPoll view r.domain p) rs c.loop-relationship.relationship-index polls
    c.loop-relationship-test.false c.loop-relationship.invariant))
