use Rattle.std.proofs.Common.{◌≡◌, List, sym, subst, ap, length, rules, arith}
use Rattle.std.specs.List.{AllByRecursion}
use Rattle.receipt_core.specs.declared.distrust.Distrust.{Distrust}
use Rattle.receipt_core.specs.Receipt.{IsDistrust, distrust_line}
use Rattle.receipt_core.proofs.LimitFacts.{record_limit-most}
use Rattle.replica_core.specs.declared.entry.Entry.TheVariants.{Record}
use Rattle.side_by_side.specs.Offering.{as_kept, none_offered}
use Rattle.side_by_side.proofs.HeldOfferFacts.{item_count, item_form, item_more, item_place, own_line}
use Rattle.side_by_side.proofs.held_offering.offer_records.Goals as goal

pub count_line-offered-requires : goal.count_line-offered-requires
count_line-offered-requires g c =
    let all : c.into_iter-domain-iterator.result ≡ (g.C.Closure.state c.args.from.now).meaning.records = first_of (cc, search rules) in
    let place = item_place distrust_line (as_kept (g.C.Closure.state c.args.to.now).meaning c.args.journal.now.items) c.into_iter-domain-iterator.result
    c.records.domain-iterator c.next.new.self (record { domain = c.in-Some.domain.now; key = c.in-Some.key.now })
    (as_kept (g.C.Closure.state c.records.to).meaning c.records.journal.items)
    none_offered c.records.offered c.records.invariant c.in-Some.ensures.steps in
    let size = ap length all in
    let few = c.config-valid.ensures.valid.few_records in
    let most = record_limit-most (g.C.Closure.state c.args.from.now).meaning.config in
    omega (arith, place, size, few, most)

pub returns-clause-few : goal.returns-clause-few
returns-clause-few g c =
    let all : c.into_iter-domain-iterator.result ≡ (g.C.Closure.state c.args.from.now).meaning.records = first_of (cc, search rules) in
    let count = item_count distrust_line (as_kept (g.C.Closure.state c.args.to.now).meaning c.args.journal.now.items) c.into_iter-domain-iterator.result
    c.records.domain-iterator (as_kept (g.C.Closure.state c.records.to).meaning c.records.journal.items)
    none_offered c.records.offered c.records.invariant in
    let size = ap length all in
    let few = c.config-valid.ensures.valid.few_records in
    let most = record_limit-most (g.C.Closure.state c.args.from.now).meaning.config in
    omega (arith, count, size, few, most)

pub records-preserved : goal.records-preserved
records-preserved g c =
    let start = as_kept (g.C.Closure.state c.args.to.now).meaning c.args.journal.now.items in
    let now = as_kept (g.C.Closure.state c.records.to).meaning c.records.journal.items in
    let new = as_kept (g.C.Closure.state c.offer_record.new.to).meaning c.offer_record.new.journal.items in
    let x : Distrust = record { domain = c.in-Some.domain.now; key = c.in-Some.key.now } in
    let fate = c.in_ok-offer_record.field-0 in
    let all : c.into_iter-domain-iterator.result ≡ (g.C.Closure.state c.args.from.now).meaning.records = first_of (cc, search rules) in
    let form : IsDistrust x = item_form IsDistrust distrust_line start c.into_iter-domain-iterator.result c.records.domain-iterator c.next.new.self x now
    none_offered c.records.offered c.records.invariant c.in-Some.ensures.steps
    (subst (λ (xs : List Distrust). AllByRecursion IsDistrust xs) (sym all) c.config-valid.ensures.valid.distrusts) in
    item_more distrust_line start c.into_iter-domain-iterator.result c.records.domain-iterator c.next.new.self x now new none_offered c.records.offered
    c.count_line-offered.result fate c.records.invariant c.in-Some.ensures.steps
    (own_line now (Record x) new fate form c.in_ok-offer_record.ensures) c.count_line-offered.ensures
