use Rattle.std.proofs.Common.{◌≡◌, ◌++◌}
use Rattle.status_view.proofs.domain_standing.accepted_documents.Given as goal

abbrev pub invariant-loop-document : goal.invariant-loop-document
invariant-loop-document g l = l.documents.items ++ l.document-iterator ≡ l.initial.document-iterator
