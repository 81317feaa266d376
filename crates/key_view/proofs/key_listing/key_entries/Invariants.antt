use Rattle.std.proofs.Common.{take}
use Rattle.std.specs.List.{AllZip}
use Rattle.key_view.specs.Inside.Listed.{IsListedEntry}
use Rattle.key_view.proofs.key_listing.key_entries.Given as goal

abbrev pub invariant-loop-one : goal.invariant-loop-one
invariant-loop-one g l =
    AllZip (IsListedEntry l.domain (g.C.Closure.state l.closure).meaning.records l.listings) (take l.one-index l.known) l.keys.items
