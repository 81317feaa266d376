-- The lines so far are taken, and what they changed is appended to the journal.
use Rattle.std.proofs.Common.{◌≡◌, ◌≤◌, ◌-◌, None, length, take}
use Rattle.replica_sync.specs.PullSessions.{PullsLines, fault_of_pulling}
use Rattle.replica_sync.specs.PulledPieces.{JournalsAll}
use Rattle.replica_sync.specs.Inside.Waiting.{Waits, held_with}
use Rattle.replica_sync.proofs.piece_pulling.Pulling.take_lines.Given as goal

abbrev pub invariant-lines : goal.invariant-lines
invariant-lines g l = record {
  pulls : PullsLines l.fn.self (record {
    bytes = take l.used l.piece;
    old = held_with l.fn.news (g.C.Closure.state l.fn.closure).meaning;
    new = held_with l.news (g.C.Closure.state l.closure).meaning;
  }) l.self;
  journals : JournalsAll (held_with l.fn.news (g.C.Closure.state l.fn.closure).meaning)
      (held_with l.news (g.C.Closure.state l.closure).meaning) l.fn.news.journal.items l.news.journal.items;
  waits : Waits (g.C.Closure.state l.closure).meaning l.news;
  within : l.used ≤ length l.piece;
  first : l.used ≡ 0 → l.self ≡ l.fn.self;
  calm : fault_of_pulling l.fn.self ≡ None → fault_of_pulling l.self ≡ None;
}

abbrev pub decreases-lines : goal.decreases-lines
decreases-lines g l = length l.piece - l.used
