use Rattle.std.proofs.Common.{◌≡◌, ◌++◌, map}
use Rattle.receipt_core.specs.Receipt.{offer_of}
use Rattle.receipt_core.proofs.offers.offers_with.Given as goal

abbrev pub invariant-loop-key : goal.invariant-loop-key
invariant-loop-key l =
    l.offers.items ++ map (offer_of (record { domain = l.domain; document = l.document })) l.key-iterator
    ≡ map (offer_of (record { domain = l.domain; document = l.document })) l.initial.key-iterator
