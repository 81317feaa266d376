-- What is followed again was taken back; all labels together are a set that continues along edges.
use Rattle.std.proofs.Common.{◌+◌, ◌*◌, ◌≤◌, ℕ, Bool, true, List, length, refl, arith}
use Rattle.std.proofs.lemmas.List.Sums.{count_by-le-length}
use Rattle.receipt_core.specs.declared.distrust.Distrust.{Distrust}
use Rattle.wait_index.specs.declared.edges.Edge.{Edge}
use Rattle.wait_index.specs.Net.{HasReachOf, edges_at, visits_of}
use Rattle.wait_index.proofs.CloseFacts.{ClosesIn-near}
use Rattle.trust_closure.specs.Inside.Indexed.{Indexed}
use Rattle.trust_closure.specs.Work.{ClosesAtOnce}
use Rattle.trust_closure.proofs.laws.twice_the_edges.Goals as goal

-- The work is at most twice the edges at the labels of a set that has those that are closed and
-- continues along edges.
near : (old new : Indexed) (records : List Distrust) (close : ClosesAtOnce old records new) (reach : ℕ → Bool)
    → HasReachOf old.wired.net close.closing reach → new.work ≤ 2 * edges_at old.wired.net reach
near old new records close reach h =
    ClosesIn-near old.wired.net close.closing (visits_of old.wired.net old.wired.marked)
    (visits_of new.wired.net new.wired.marked) new.work reach close.work close.fewer h

-- All labels together are such a set.
twice : (old new : Indexed) (records : List Distrust) → ClosesAtOnce old records new
    → new.work ≤ 2 * (length old.wired.net.offers + length old.wired.net.waits)
twice old new records is =
    let all : ℕ → Bool = λ label. true in
    omega (
      arith,
      near old new records is all (record { has = λ label c o. refl; continues = λ here node there i j h w o. refl }),
      count_by-le-length (λ (e : Edge). true) old.wired.net.offers,
      count_by-le-length (λ (e : Edge). true) old.wired.net.waits,
    )

pub returns-clause-near : goal.returns-clause-near
returns-clause-near c = near

pub returns-clause-distrust : goal.returns-clause-distrust
returns-clause-distrust c = twice

pub returns-clause-merge : goal.returns-clause-merge
returns-clause-merge c old records work is =
    omega (arith, twice old is.after is.after.state.meaning.records is.closes, is.work)
