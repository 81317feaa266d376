use Rattle.std.proofs.Common.{◌≡◌, inl, inr, length, take, ap, ◌∙◌, arith}
use Rattle.std.proofs.lemmas.List.{take_all}
use Rattle.wait_index.specs.Inside.Tally.{Tally, net_of, tally_of}
use Rattle.wait_index.proofs.FollowFacts.{Follows-visits}
use Rattle.wait_index.proofs.GrowthFacts.{Follows-wait}
use Rattle.wait_index.proofs.ReleaseFacts.{front-trans}
use Rattle.wait_index.proofs.marks.Marks.add_wait.Goals as goal

pub follow_new_wait-requires-clause-visits : goal.follow_new_wait-requires-clause-visits
follow_new_wait-requires-clause-visits c =
    let s = c.args.self.now in
    omega (arith, c.requires.few, Follows-visits (net_of c.args.graph.now) (length s.marked.items.items) 0 0 (tally_of s) c.requires.settled.follows)

pub follow_all-requires-clause-follows : goal.follow_all-requires-clause-follows
follow_all-requires-clause-follows c =
    let s = c.args.self.now in
    let cursor : c.len-cursor.result ≡ length s.marked.items.items = omega (arith, c.len-cursor.ensures, s.marked.items.ok.0) in
    rw (c.add_wait.ensures.net, cursor)
    (Follows-wait (net_of c.args.graph.now) c.args.label c.args.node (tally_of s) (tally_of c.follow_new_wait.new.self)
    c.requires.label c.requires.settled c.follow_new_wait.ensures.followed c.follow_new_wait.new.self.marked.listed)

pub returns-clause-front : goal.returns-clause-front
returns-clause-front c =
    let old = c.args.self.now.marked.items.items in
    let then = c.follow_new_wait.new.self.marked.items.items in
    let first : take (length old) then ≡ old =
    elim c.follow_new_wait.ensures.followed [
      | inl s ↦ s.1.front
      | inr s ↦ ap (λ (t : Tally). take (length old) t.marked) s.1 ∙ take_all (length old) old (omega arith)
    ]
    in
    front-trans old then c.follow_all.new.self.marked.items.items first c.follow_all.ensures.spreads.front
