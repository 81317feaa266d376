use Rattle.std.proofs.Common.{◌≡◌, inl, inr, length, take, ap, ◌∙◌, arith}
use Rattle.std.proofs.lemmas.List.{take_all}
use Rattle.wait_index.specs.Net.{Net}
use Rattle.wait_index.specs.Inside.Tally.{Tally, net_of, tally_of}
use Rattle.wait_index.proofs.FollowFacts.{Follows-visits, Follows-support, Settles-spreads, with_support}
use Rattle.wait_index.proofs.GrowthFacts.{Follows-offer}
use Rattle.wait_index.proofs.ReleaseFacts.{front-trans}
use Rattle.wait_index.proofs.marks.Marks.add_offer.Goals as goal

pub follow_new_offer-requires-clause-visits : goal.follow_new_offer-requires-clause-visits
follow_new_offer-requires-clause-visits c =
    let s = c.args.self.now in
    omega (
      arith,
      c.requires.few,
      ap (λ (n : Net). length n.waits) c.add_offer.ensures.net,
      Follows-visits (net_of c.args.graph.now) (length s.marked.items.items) 0 0 (tally_of s)
          c.requires.settled.follows,
    )

pub follow_new_offer-requires-clause-support : goal.follow_new_offer-requires-clause-support
follow_new_offer-requires-clause-support c =
    let s = c.args.self.now in
    omega (
      arith,
      c.requires.few,
      Follows-support (net_of c.args.graph.now) (length s.marked.items.items) 0 0
          (tally_of s) c.requires.settled.follows c.args.label c.requires.label,
    )

pub follow_all-requires-clause-follows : goal.follow_all-requires-clause-follows
follow_all-requires-clause-follows c =
    let s = c.args.self.now in
    let cursor : c.len-cursor.result ≡ length s.marked.items.items = omega (arith, c.len-cursor.ensures, s.marked.items.ok.0) in
    rw (c.add_offer.ensures.net, cursor)
    (Follows-offer (net_of c.args.graph.now) c.args.node c.args.label (tally_of s) (tally_of c.follow_new_offer.new.self) c.requires.label c.requires.settled
    (rw c.add_offer.ensures.net at c.follow_new_offer.ensures.followed) c.follow_new_offer.new.self.marked.listed)

pub returns-clause-front : goal.returns-clause-front
returns-clause-front c =
    let s = c.args.self.now in
    let old = s.marked.items.items in
    let then = c.follow_new_offer.new.self.marked.items.items in
    let first : take (length old) then ≡ old =
    elim c.follow_new_offer.ensures.followed [
      | inl f ↦ (Settles-spreads (net_of c.add_offer.new.self) c.args.label (with_support (tally_of s) c.args.label)
          (tally_of c.follow_new_offer.new.self) f.1).front
      | inr f ↦ ap (λ (t : Tally). take (length old) t.marked) f.1 ∙ take_all (length old) old (omega arith)
    ]
    in
    front-trans old then c.follow_all.new.self.marked.items.items first c.follow_all.ensures.spreads.front
