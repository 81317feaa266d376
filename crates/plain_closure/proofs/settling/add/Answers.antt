-- What accepted documents vouch for is accepted from now on.
use Rattle.std.proofs.Common.{◌≡◌, ◌∙◌, ◌-◌, length, arith, ap}
use Rattle.fed_config.specs.Configuration.{Configuration}
use Rattle.closure_core.specs.Inside.Flags.{raised_count}
use Rattle.closure_core.specs.Inside.Nodes.{flags_of}
use Rattle.plain_closure.specs.Plain.{HasPlainFlags}
use Rattle.std.proofs.lemmas.List.{length_push}
use Rattle.closure_parts.proofs.NodeCountFacts.{count-push}
use Rattle.plain_closure.proofs.PlainChangeFacts.{heads-lowered, heads-few, raised-as, settled-from, gain-added}
use Rattle.closure_parts.proofs.NodeCountFacts.{flags-push}
use Rattle.plain_closure.proofs.settling.add.Goals as goal

pub count_accepted-after-requires-clause-heads : goal.count_accepted-after-requires-clause-heads
count_accepted-after-requires-clause-heads c =
    let h = c.args.held.now in
    let new = c.place_receipt.new.held in
    let p = c.args.pairs.now in
    let p1 = c.place_receipt.new.pairs in
    let low = c.clear-before.new.self in
    let offers = c.args.seed_offers.now in
    let old = c.args.released.now.items in
    let rel1 = c.place_receipt.new.released.items in
    heads-lowered new p1 low offers rel1 c.place_receipt.ensures.set c.clear-before.ensures.heads
    c.clear-before.ensures.size

pub count_accepted-after-requires-clause-few : goal.count_accepted-after-requires-clause-few
count_accepted-after-requires-clause-few c =
    heads-few c.place_receipt.new.held c.place_receipt.new.pairs c.clear-before.new.self
    c.args.seed_offers.now c.place_receipt.new.released.items c.place_receipt.ensures.set
    c.config-valid.ensures.form c.config-valid.ensures.size c.clear-before.ensures.heads

pub overflow_sub-result : goal.overflow_sub-result
overflow_sub-result c =
    let h = c.args.held.now in
    let new = c.place_receipt.new.held in
    let p = c.args.pairs.now in
    let p1 = c.place_receipt.new.pairs in
    let low = c.clear-before.new.self in
    let offers = c.args.seed_offers.now in
    let old = c.args.released.now.items in
    let rel1 = c.place_receipt.new.released.items in
    let q = c.count_accepted-after.new.pairs in
    let rel = c.settle.new.released.items in
    let list = c.count_accepted-after.ensures.heads ∙ c.clear-before.ensures.heads in
    let size = c.count_accepted-after.ensures.size ∙ c.clear-before.ensures.size in
    let raised = raised-as (flags_of q.counts) (length c.seeds.result.now) (length new.config.seeds)
    c.deref.result.now rel low.heads p1.heads
    (ap length (c.seeds.ensures ∙ ap (λ (a : Configuration). a.seeds) c.config.ensures.config))
    c.deref.ensures.value c.clear-before.ensures.heads c.count_accepted-after.ensures.raised in
    let settled : HasPlainFlags new q offers rel = settled-from new p1 q offers rel1 rel
    c.place_receipt.ensures.set c.settle.ensures.size c.settle.ensures.released
    (c.count_accepted-after.ensures.numbers ∙ c.clear-before.ensures.numbers) list size raised in
    let gain = gain-added h new p q offers old rel c.args.receipt c.place_receipt.ensures.heads.0 c.requires.settled
    c.requires.absent.is c.place_receipt.ensures.held settled
    (list ∙ c.place_receipt.ensures.heads.1)
    (omega (arith, size, ap length c.place_receipt.ensures.counts, length_push p.counts 0)) in
    let before : c.clear-before.result ≡ raised_count (flags_of p.counts) =
    c.clear-before.ensures.count ∙ ap raised_count
    (flags-push p.counts p1.counts c.place_receipt.ensures.counts)
    ∙ count-push (flags_of p.counts) in
    omega (arith, gain.0, before, c.count_accepted-after.ensures.count)

pub returns-clause-settled : goal.returns-clause-settled
returns-clause-settled c =
    let h = c.args.held.now in
    let new = c.place_receipt.new.held in
    let p = c.args.pairs.now in
    let p1 = c.place_receipt.new.pairs in
    let low = c.clear-before.new.self in
    let offers = c.args.seed_offers.now in
    let old = c.args.released.now.items in
    let rel1 = c.place_receipt.new.released.items in
    let q = c.count_accepted-after.new.pairs in
    let rel = c.settle.new.released.items in
    let list = c.count_accepted-after.ensures.heads ∙ c.clear-before.ensures.heads in
    let size = c.count_accepted-after.ensures.size ∙ c.clear-before.ensures.size in
    let raised = raised-as (flags_of q.counts) (length c.seeds.result.now) (length new.config.seeds)
    c.deref.result.now rel low.heads p1.heads
    (ap length (c.seeds.ensures ∙ ap (λ (a : Configuration). a.seeds) c.config.ensures.config))
    c.deref.ensures.value c.clear-before.ensures.heads c.count_accepted-after.ensures.raised in
    let settled : HasPlainFlags new q offers rel = settled-from new p1 q offers rel1 rel
    c.place_receipt.ensures.set c.settle.ensures.size c.settle.ensures.released
    (c.count_accepted-after.ensures.numbers ∙ c.clear-before.ensures.numbers) list size raised in
    settled

pub returns-clause-gain : goal.returns-clause-gain
returns-clause-gain c =
    let h = c.args.held.now in
    let new = c.place_receipt.new.held in
    let p = c.args.pairs.now in
    let p1 = c.place_receipt.new.pairs in
    let low = c.clear-before.new.self in
    let offers = c.args.seed_offers.now in
    let old = c.args.released.now.items in
    let rel1 = c.place_receipt.new.released.items in
    let q = c.count_accepted-after.new.pairs in
    let rel = c.settle.new.released.items in
    let list = c.count_accepted-after.ensures.heads ∙ c.clear-before.ensures.heads in
    let size = c.count_accepted-after.ensures.size ∙ c.clear-before.ensures.size in
    let raised = raised-as (flags_of q.counts) (length c.seeds.result.now) (length new.config.seeds)
    c.deref.result.now rel low.heads p1.heads
    (ap length (c.seeds.ensures ∙ ap (λ (a : Configuration). a.seeds) c.config.ensures.config))
    c.deref.ensures.value c.clear-before.ensures.heads c.count_accepted-after.ensures.raised in
    let settled : HasPlainFlags new q offers rel = settled-from new p1 q offers rel1 rel
    c.place_receipt.ensures.set c.settle.ensures.size c.settle.ensures.released
    (c.count_accepted-after.ensures.numbers ∙ c.clear-before.ensures.numbers) list size raised in
    let gain = gain-added h new p q offers old rel c.args.receipt c.place_receipt.ensures.heads.0 c.requires.settled
    c.requires.absent.is c.place_receipt.ensures.held settled
    (list ∙ c.place_receipt.ensures.heads.1)
    (omega (arith, size, ap length c.place_receipt.ensures.counts, length_push p.counts 0)) in
    let before : c.clear-before.result ≡ raised_count (flags_of p.counts) =
    c.clear-before.ensures.count ∙ ap raised_count
    (flags-push p.counts p1.counts c.place_receipt.ensures.counts)
    ∙ count-push (flags_of p.counts) in
    gain.1 (c.count_accepted-after.result - c.clear-before.result)
    (omega (arith, gain.0, before, c.count_accepted-after.ensures.count))
