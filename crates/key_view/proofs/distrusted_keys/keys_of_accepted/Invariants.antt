use Rattle.std.proofs.Common.{drop}
use Rattle.key_view.specs.KnownKeys.{keys_of_documents, with_documents}
use Rattle.key_view.proofs.DistrustedFacts.{LeadsTo}
use Rattle.key_view.proofs.distrusted_keys.keys_of_accepted.Given as goal

abbrev pub invariant-loop-bundle : goal.invariant-loop-bundle
invariant-loop-bundle g l =
    LeadsTo l.domain (g.C.Closure.state l.closure).meaning.records with_documents (drop l.bundle-index l.accepted)
    (keys_of_documents l.accepted) l.found
