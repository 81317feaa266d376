-- What does not depend on the distrusted key is raised again.
use Rattle.std.proofs.Common.{◌∙◌, ◌-◌, length, arith, ap}
use Rattle.fed_config.specs.Configuration.{Configuration}
use Rattle.closure_core.specs.Inside.Nodes.{flags_of}
use Rattle.plain_closure.specs.Plain.{HasPlainFlags}
use Rattle.plain_closure.proofs.PlainChangeFacts.{heads-lowered, heads-few, raised-as, settled-from, set-closed, loss-fallen}
use Rattle.plain_closure.proofs.settling.fall.Goals as goal

pub settle-requires-clause-offers : goal.settle-requires-clause-offers
settle-requires-clause-offers c =
    let b = c.requires.before in
    let set = set-closed b.old c.args.held.now b.more c.args.pairs.now c.args.seed_offers.now
    c.args.released.now.items c.lower.new.released.items b.settled.set b.before
    c.config-valid.ensures.valid c.lower.ensures.size in
    set.offers

pub settle-requires-clause-same : goal.settle-requires-clause-same
settle-requires-clause-same c =
    let b = c.requires.before in
    let set = set-closed b.old c.args.held.now b.more c.args.pairs.now c.args.seed_offers.now
    c.args.released.now.items c.lower.new.released.items b.settled.set b.before
    c.config-valid.ensures.valid c.lower.ensures.size in
    set.same

pub count_accepted-after-requires-clause-heads : goal.count_accepted-after-requires-clause-heads
count_accepted-after-requires-clause-heads c =
    let new = c.args.held.now in
    let p = c.args.pairs.now in
    let low = c.clear-before.new.self in
    let offers = c.args.seed_offers.now in
    let old = c.args.released.now.items in
    let b = c.requires.before in
    let rel1 = c.lower.new.released.items in
    let set = set-closed b.old new b.more p offers old rel1 b.settled.set b.before
    c.config-valid.ensures.valid c.lower.ensures.size in
    heads-lowered new p low offers rel1 set c.clear-before.ensures.heads
    c.clear-before.ensures.size

pub count_accepted-after-requires-clause-few : goal.count_accepted-after-requires-clause-few
count_accepted-after-requires-clause-few c =
    let new = c.args.held.now in
    let p = c.args.pairs.now in
    let offers = c.args.seed_offers.now in
    let old = c.args.released.now.items in
    let b = c.requires.before in
    let rel1 = c.lower.new.released.items in
    let set = set-closed b.old new b.more p offers old rel1 b.settled.set b.before
    c.config-valid.ensures.valid c.lower.ensures.size in
    heads-few new p c.clear-before.new.self offers rel1 set c.config-valid.ensures.form
    c.config-valid.ensures.size c.clear-before.ensures.heads

pub overflow_sub-result : goal.overflow_sub-result
overflow_sub-result c =
    let new = c.args.held.now in
    let p = c.args.pairs.now in
    let low = c.clear-before.new.self in
    let offers = c.args.seed_offers.now in
    let old = c.args.released.now.items in
    let b = c.requires.before in
    let rel1 = c.lower.new.released.items in
    let set = set-closed b.old new b.more p offers old rel1 b.settled.set b.before
    c.config-valid.ensures.valid c.lower.ensures.size in
    let q = c.count_accepted-after.new.pairs in
    let rel = c.settle.new.released.items in
    let list = c.count_accepted-after.ensures.heads ∙ c.clear-before.ensures.heads in
    let size = c.count_accepted-after.ensures.size ∙ c.clear-before.ensures.size in
    let raised = raised-as (flags_of q.counts) (length c.seeds.result.now) (length new.config.seeds)
    c.deref.result.now rel low.heads p.heads
    (ap length (c.seeds.ensures ∙ ap (λ (a : Configuration). a.seeds) c.config.ensures.config))
    c.deref.ensures.value c.clear-before.ensures.heads c.count_accepted-after.ensures.raised in
    let settled : HasPlainFlags new q offers rel = settled-from new p q offers rel1 rel set
    c.settle.ensures.size c.settle.ensures.released
    (c.count_accepted-after.ensures.numbers ∙ c.clear-before.ensures.numbers) list size raised in
    let loss = loss-fallen b.old new b.more p q offers old rel b.settled b.before settled list
    size in
    omega (arith, loss.0, c.clear-before.ensures.count, c.count_accepted-after.ensures.count)

pub returns-clause-settled : goal.returns-clause-settled
returns-clause-settled c =
    let new = c.args.held.now in
    let p = c.args.pairs.now in
    let low = c.clear-before.new.self in
    let offers = c.args.seed_offers.now in
    let old = c.args.released.now.items in
    let b = c.requires.before in
    let rel1 = c.lower.new.released.items in
    let set = set-closed b.old new b.more p offers old rel1 b.settled.set b.before
    c.config-valid.ensures.valid c.lower.ensures.size in
    let q = c.count_accepted-after.new.pairs in
    let rel = c.settle.new.released.items in
    let list = c.count_accepted-after.ensures.heads ∙ c.clear-before.ensures.heads in
    let size = c.count_accepted-after.ensures.size ∙ c.clear-before.ensures.size in
    let raised = raised-as (flags_of q.counts) (length c.seeds.result.now) (length new.config.seeds)
    c.deref.result.now rel low.heads p.heads
    (ap length (c.seeds.ensures ∙ ap (λ (a : Configuration). a.seeds) c.config.ensures.config))
    c.deref.ensures.value c.clear-before.ensures.heads c.count_accepted-after.ensures.raised in
    let settled : HasPlainFlags new q offers rel = settled-from new p q offers rel1 rel set
    c.settle.ensures.size c.settle.ensures.released
    (c.count_accepted-after.ensures.numbers ∙ c.clear-before.ensures.numbers) list size raised in
    settled

pub returns-clause-loss : goal.returns-clause-loss
returns-clause-loss c was xs before is =
    let new = c.args.held.now in
    let p = c.args.pairs.now in
    let low = c.clear-before.new.self in
    let offers = c.args.seed_offers.now in
    let old = c.args.released.now.items in
    let b = c.requires.before in
    let rel1 = c.lower.new.released.items in
    let set = set-closed b.old new b.more p offers old rel1 b.settled.set b.before
    c.config-valid.ensures.valid c.lower.ensures.size in
    let q = c.count_accepted-after.new.pairs in
    let rel = c.settle.new.released.items in
    let list = c.count_accepted-after.ensures.heads ∙ c.clear-before.ensures.heads in
    let size = c.count_accepted-after.ensures.size ∙ c.clear-before.ensures.size in
    let raised = raised-as (flags_of q.counts) (length c.seeds.result.now) (length new.config.seeds)
    c.deref.result.now rel low.heads p.heads
    (ap length (c.seeds.ensures ∙ ap (λ (a : Configuration). a.seeds) c.config.ensures.config))
    c.deref.ensures.value c.clear-before.ensures.heads c.count_accepted-after.ensures.raised in
    let settled : HasPlainFlags new q offers rel = settled-from new p q offers rel1 rel set
    c.settle.ensures.size c.settle.ensures.released
    (c.count_accepted-after.ensures.numbers ∙ c.clear-before.ensures.numbers) list size raised in
    let loss = loss-fallen was new xs p q offers old rel is before settled list size in
    loss.1 (c.clear-before.result - c.count_accepted-after.result)
    (omega (arith, loss.0, c.clear-before.ensures.count, c.count_accepted-after.ensures.count))
