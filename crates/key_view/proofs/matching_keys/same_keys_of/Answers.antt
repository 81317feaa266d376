use Rattle.std.proofs.lemmas.List.{nil_from_length}
use Rattle.key_view.proofs.MatchingFacts.{each_ok}
use Rattle.key_view.proofs.SameKeyFacts.{same_of}
use Rattle.key_view.proofs.TrustedFacts.{trusted_of_none}
use Rattle.key_view.proofs.matching_keys.same_keys_of.Goals as goal

pub returns-then-is_empty : goal.returns-then-is_empty
returns-then-is_empty g c =
    same_of (g.C.Closure.state c.args.closure.now).meaning c.args.domain.now c.in_ok-accepted.accepted.items c.in_ok-distrusted.distrusted
    c.new.result.items c.in_ok-accepted.ensures (rw c.as_slice.ensures.value at c.in_ok-distrusted.ensures)
    (trusted_of_none c.args.domain.now (g.C.Closure.state c.args.closure.now).meaning.records c.in_ok-distrusted.distrusted.public_keys _ _
    (nil_from_length c.in_ok-distrusted.distrusted.public_keys.keys (c.is_empty.ensures.0 c.if-is_empty.true)) c.new.ensures.items)

pub returns : goal.returns
returns g c =
    let found = rw c.as_slice.ensures.value at c.in_ok-distrusted.ensures in
    let among = rw (c.as_slice-3.ensures.value, c.in_ok-met.ensures.keys, c.as_slice-2.ensures.value) at c.trusted_with.ensures in
    each_ok _ _ c.trusted_with.result among
    (λ ids are. same_of (g.C.Closure.state c.args.closure.now).meaning c.args.domain.now c.in_ok-accepted.accepted.items
    c.in_ok-distrusted.distrusted ids.items c.in_ok-accepted.ensures found are)
