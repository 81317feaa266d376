use Rattle.std.proofs.Common.{◌≡◌, ◌++◌}
use Rattle.key_view.proofs.key_listing.accepted_bundles.Given as goal

abbrev pub invariant-loop-document : goal.invariant-loop-document
invariant-loop-document g l = l.bundles.items ++ l.document-iterator ≡ l.initial.document-iterator
