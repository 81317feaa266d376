use Rattle.std.proofs.Common.{◌≡◌, drop}
use Rattle.key_view.specs.KnownKeys.{keys_of_documents, with_documents}
use Rattle.key_view.specs.Inside.MetIds.{HasIds}
use Rattle.key_view.proofs.met_keys.keys_of_documents.Given as goal

abbrev pub invariant-loop-bundle : goal.invariant-loop-bundle
invariant-loop-bundle l =
    (with_documents l.met.keys.items (drop l.bundle-index l.accepted) ≡ keys_of_documents l.accepted)
    × HasIds l.met
