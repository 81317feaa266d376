use Rattle.std.proofs.Common.{◌≡◌, map, set, get_or, Some, subst, sym}
use Rattle.std.specs.List.{slice_get}
use Rattle.poll_log.specs.Polling.{RecordsPoll, IsLog, Poll, PollStatus, polled_domains}
use Rattle.poll_log.specs.Inside.Statuses.{after, kept_status}
use Rattle.poll_log.proofs.PollFacts.{Adds-at, IsLog-more, kept-set, slice_get-domain}
use Rattle.poll_log.proofs.log.PollLog.add.Goals as goal

-- the statuses in memory after the change are the log after it
changed : (c : goal.After-self-1) → map kept_status (set c.self.inside.statuses.items c.args.place c.add.new.self)
    ≡ set c.args.self.now c.args.place
    (after (get_or c.args.self.now c.args.place (kept_status c.index_mut.result.now)) c.args.moment.nanosecond
    c.args.ok)
changed c = kept-set c.self.inside.statuses.items c.args.self.now c.args.place c.index_mut.result.now c.add.new.self
    c.args.moment.nanosecond c.args.ok c.self.view_is c.index_mut.ensures.value c.requires c.add.ensures

-- any poll of this domain, time and outcome is the one that is recorded
adds : (c : goal.After-self-1) (p : Poll) → p.moment ≡ c.args.moment.nanosecond → p.ok ≡ c.args.ok
    → slice_get (polled_domains c.args.self.now) c.args.place ≡ Some p.domain
    → RecordsPoll c.args.self.now p (map kept_status (set c.self.inside.statuses.items c.args.place c.add.new.self))
adds c p moment ok at =
    let is : IsLog c.args.self.now = subst IsLog c.self.view_is c.self.invariant in
    subst (RecordsPoll c.args.self.now p) (sym (changed c))
    (subst (λ (z : Poll). RecordsPoll c.args.self.now p
    (set c.args.self.now c.args.place
    (after (get_or c.args.self.now c.args.place (kept_status c.index_mut.result.now)) z.moment z.ok)))
    (λ i. record { domain = p.domain; moment = moment i; ok = ok i })
    (Adds-at c.args.self.now p c.args.place (kept_status c.index_mut.result.now) is at))

pub invariant_of-self : goal.invariant_of-self
invariant_of-self c =
    let is : IsLog c.args.self.now = subst IsLog c.self.view_is c.self.invariant in
    let s : PollStatus = get_or c.args.self.now c.args.place (kept_status c.index_mut.result.now) in
    let p : Poll = record { domain = s.domain; moment = c.args.moment.nanosecond; ok = c.args.ok } in
    IsLog-more c.args.self.now _ p is
    (adds c p (λ i. c.args.moment.nanosecond) (λ i. c.args.ok)
    (slice_get-domain c.args.self.now c.args.place (kept_status c.index_mut.result.now) c.requires))

pub returns : goal.returns
returns c = λ domain at. adds c (record { domain = domain; moment = c.args.moment.nanosecond; ok = c.args.ok })
    (λ i. c.args.moment.nanosecond) (λ i. c.args.ok) at
