use Rattle.std.proofs.Common.{take}
use Rattle.key_view.specs.Inside.Listed.{AddsListed}
use Rattle.key_view.proofs.listings.list_document.Given as goal

abbrev pub invariant-loop-authority : goal.invariant-loop-authority
invariant-loop-authority l =
    AddsListed l.document.id l.document.number (take l.authority-index l.authorities) l.initial.listings l.listings
